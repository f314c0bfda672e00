use Rattle.std.proofs.Common.{◌≡◌, ℕ, ◌≤◌, List, map, length, ℤ, Err, sym, refl, ap, ◌∙◌, subst, ap₂, arith}
use Rattle.std.proofs.lemmas.List.{length-map}
use Rattle.bench.specs.Rows.{step_numbers, limit_numbers}
use Rattle.records.specs.Payload.{put}
use Rattle.recipes.specs.Rows.{refused_of}
use Rattle.recipes.specs.Taken.{ending_of}
use Rattle.station.specs.Output.{refusal_line}
use Rattle.station.proofs.Given.{gives_too_long, gives_refused, gives_sheet, lines_fit, never_short}
use Rattle.station.proofs.output.put_output.Goals as goal

-- as many numbers as rows
few_numbers : {X : Type 0} (f : X → List ℤ) (xs : List X) (n : ℕ) → length xs ≤ n → length (map f xs) ≤ n
few_numbers f xs n h = subst (λ k. k ≤ n) (sym (length-map xs f)) h

pub returns-then-text-gt-TEXT_MOST : goal.returns-then-text-gt-TEXT_MOST
returns-then-text-gt-TEXT_MOST c =
    gives_too_long c.args.text.now (map step_numbers c.args.steps.now) (map limit_numbers c.args.limits.now) c.args.out.now c.put_refusal.result c.put_refusal.new.out
    c.if-text-gt-TEXT_MOST.true c.put_refusal.ensures.len c.put_refusal.ensures.after

pub put_sheet-requires : goal.put_sheet-requires
put_sheet-requires c =
    let steps = map step_numbers c.args.steps.now in
    let limits = map limit_numbers c.args.limits.now in
    let fit = lines_fit c.args.text.now steps limits c.args.out.now c.if-text-gt-TEXT_MOST.false _ _ _ _ c.in-Ok.ensures
    (few_numbers step_numbers c.args.steps.now 1024 c.requires.steps) (few_numbers limit_numbers c.args.limits.now 1024 c.requires.limits) c.requires.out
    c.in-Ok.frames.first c.in-Ok.frames.second refl in
    omega (arith, fit, c.enter_text.auto.out)

pub unreachable-requires : goal.unreachable-requires
unreachable-requires c =
    never_short c.args.text.now (map step_numbers c.args.steps.now) (map limit_numbers c.args.limits.now) c.args.out.now c.if-text-gt-TEXT_MOST.false _ _ _ _ c.in-Err-TooShort.ensures
    (few_numbers step_numbers c.args.steps.now 1024 c.requires.steps) (few_numbers limit_numbers c.args.limits.now 1024 c.requires.limits) c.requires.out
    (ap (λ e. ending_of (Err e)) c.in-Err-TooShort.field-0-is)

pub returns-in-Ok : goal.returns-in-Ok
returns-in-Ok c =
    gives_sheet c.args.text.now (map step_numbers c.args.steps.now) (map limit_numbers c.args.limits.now) c.args.out.now c.if-text-gt-TEXT_MOST.false _ _ _ _ c.in-Ok.ensures
    (few_numbers step_numbers c.args.steps.now 1024 c.requires.steps) (few_numbers limit_numbers c.args.limits.now 1024 c.requires.limits) c.requires.out
    c.in-Ok.frames.first c.in-Ok.frames.second refl c.put_sheet.result c.put_sheet.new.out c.put_sheet.ensures.len c.put_sheet.ensures.after

pub returns-in-Err-Line : goal.returns-in-Err-Line
returns-in-Err-Line c =
    let l = c.in-Err-Line.l in
    let call = c.put_refusal-in-Err-Line in
    let same : refusal_line l.line c.number.result c.place.result ≡ refusal_line l.line (refused_of l.refusal).number (refused_of l.refusal).place =
    ap₂ (refusal_line l.line) c.number.ensures c.place.ensures in
    gives_refused c.args.text.now (map step_numbers c.args.steps.now) (map limit_numbers c.args.limits.now) c.args.out.now c.if-text-gt-TEXT_MOST.false _ _ _ _ c.in-Err-Line.ensures
    l.line (refused_of l.refusal) call.result call.new.out (ap (λ e. ending_of (Err e)) c.in-Err-Line.field-0-is) (call.ensures.len ∙ ap length same)
    (call.ensures.after ∙ ap (put c.enter_text.new.out 0) same)
