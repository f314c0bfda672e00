use Rattle.std.proofs.Common.{◌≡◌, ℕ, ◌+◌, ◌*◌, ◌^◌, ◌<◌, ◌≤◌, length, drop, true, eqb, pos, Some, None, Ok, Err, Option, sym, ap, ◌∙◌, subst, ⊎_elim, arith, rules}
use Rattle.std.specs.Option.{SomeIff, ok_or}
use Rattle.std.proofs.lemmas.Result.{err_from_is_err_and}
use Rattle.atoi_simd.specs.declared.error.AtoiSimdError.{AtoiSimdError}
use Rattle.std.proofs.lemmas.List.{take_rest}
use Rattle.std.proofs.lemmas.Bool.{both_ways}
use Rattle.atoi_simd.specs.Answer.{ok}
use Rattle.atoi_simd.proofs.Blocks.{Read, read, unread, low_16}
use Rattle.atoi_simd.proofs.Skipped.{Skipped}
use Rattle.atoi_simd.proofs.Wide.{wide_body, read_8, unread_8, only_zeros, fewer, long, sixteen, rest_low, too_long, skips, reads, over}
use Rattle.atoi_simd.proofs.fallback.parse_fb_64_pos.Goals as goal
use Rattle.atoi_simd.proofs.fallback.parse_fb_64_pos.Goals.{In-Ok, In-Ok-parse_8}

-- the first sixteen bytes are digits
full : (c : In-Ok) → Read 16 c.args.skip_zeroes c.loop-v.rest.now true c.in-Ok.v c.in-Ok.field-0-1 c.in-Ok.z
full c = read 16 c.args.skip_zeroes c.loop-v.rest.now c.in-Ok.ensures

-- the digits behind them
more : (c : In-Ok-parse_8) → Read 8 c.args.skip_zeroes (drop 16 c.loop-v.rest.now) (eqb c.in-Ok-parse_8.v.1 8) c.in-Ok-parse_8.v.0 c.in-Ok-parse_8.v.1 c.in-Ok-parse_8.v.2
more c = read_8 c.args.skip_zeroes c.loop-v.rest.now c.in-Ok-parse_8.ensures

pub returns-then-skipped-gt0-clause-value : goal.returns-then-skipped-gt0-clause-value
returns-then-skipped-gt0-clause-value c =
    let e = unread 16 c.args.skip_zeroes c.loop-v.rest.now c.in-Err.ensures in
    only_zeros c.args.limit.max c.loop-v.invariant c.if-skipped-gt0.true e.1

pub returns-in-Ret : goal.returns-in-Ret
returns-in-Ret c =
    let r = read 16 c.args.skip_zeroes c.loop-v.rest.now c.in-Ret.ensures in
    record { value = fewer c.args.limit.max c.loop-v.invariant c.args.limit.wide r; fits = omega (arith, low_16 r, c.args.limit.wide) }

pub slice_bounds-parse_8-count : goal.slice_bounds-parse_8-count
slice_bounds-parse_8-count c =
    let r = full (goal.at.slice_bounds-parse_8-count c).In-Ok in
    (long c.args.limit.max c.loop-v.invariant c.args.limit.wide r).1

pub slice_bounds-parse_8-start : goal.slice_bounds-parse_8-start
slice_bounds-parse_8-start c =
    let r = full (goal.at.slice_bounds-parse_8-start c).In-Ok in
    let h : 16 ≤ length c.loop-v.rest.now = (long c.args.limit.max c.loop-v.invariant c.args.limit.wide r).1 in search rules

pub returns-in-Err-parse_8 : goal.returns-in-Err-parse_8
returns-in-Err-parse_8 c =
    let r = full (goal.at.returns-in-Err-parse_8 c).In-Ok in
    let none = unread_8 c.args.skip_zeroes c.loop-v.rest.now c.in-Err-parse_8.ensures in
    record { value = sixteen c.args.limit.max c.loop-v.invariant c.args.limit.wide r none; fits = omega (arith, low_16 r, c.args.limit.wide) }

pub slice_bounds-rest-count : goal.slice_bounds-rest-count
slice_bounds-rest-count c =
    let r = full (goal.at.slice_bounds-rest-count c).In-Ok in
    let q = more (goal.at.slice_bounds-rest-count c).In-Ok-parse_8 in
    (skips c.args.limit.max c.loop-v.invariant c.args.limit.wide r q c.zeroes_of_24-zeroes.result c.if-skip_zeroes.true c.if-zeroes-gt0.true c.zeroes_of_24-zeroes.ensures.value).0

pub slice_bounds-rest-start : goal.slice_bounds-rest-start
slice_bounds-rest-start c =
    let r = full (goal.at.slice_bounds-rest-start c).In-Ok in
    let q = more (goal.at.slice_bounds-rest-start c).In-Ok-parse_8 in
    let h : c.zeroes_of_24-zeroes.result ≤ length c.loop-v.rest.now = (skips c.args.limit.max c.loop-v.invariant c.args.limit.wide r q c.zeroes_of_24-zeroes.result c.if-skip_zeroes.true c.if-zeroes-gt0.true c.zeroes_of_24-zeroes.ensures.value).0 in
    search rules

pub loop-v-preserved : goal.loop-v-preserved
loop-v-preserved c =
    let r = full (goal.at.loop-v-preserved c).In-Ok in
    let q = more (goal.at.loop-v-preserved c).In-Ok-parse_8 in
    subst (λ l. Skipped (wide_body c.args.limit.max c.args.skip_zeroes) c.args.skip_zeroes c.args.s.now l (c.loop-v.skipped + c.zeroes_of_24-zeroes.result)) (sym (take_rest c.loop-v.rest.now c.zeroes_of_24-zeroes.result))
    (skips c.args.limit.max c.loop-v.invariant c.args.limit.wide r q c.zeroes_of_24-zeroes.result c.if-skip_zeroes.true c.if-zeroes-gt0.true c.zeroes_of_24-zeroes.ensures.value).2

pub returns-then-len-limit-clause-value : goal.returns-then-len-limit-clause-value
returns-then-len-limit-clause-value c =
    let r = full (goal.at.returns-then-len-limit-clause-value c).In-Ok in
    let q = more (goal.at.returns-then-len-limit-clause-value c).In-Ok-parse_8 in
    too_long c.args.limit.max c.loop-v.invariant c.args.limit.wide r q c.args.limit.len_more c.args.limit.digits c.if-len-limit.true (λ t. ⊎_elim (λ h. omega arith) (λ h. absurd (both_ways _ h t)) c.else-skip_zeroes.either)

pub joined-requires-clause-first : goal.joined-requires-clause-first
joined-requires-clause-first c =
    let r = full (goal.at.joined-requires-clause-first c).In-Ok in
    low_16 r

pub joined-requires-clause-more : goal.joined-requires-clause-more
joined-requires-clause-more c =
    let r = full (goal.at.joined-requires-clause-more c).In-Ok in
    let q = more (goal.at.joined-requires-clause-more c).In-Ok-parse_8 in
    rest_low c.args.limit.max c.loop-v.invariant c.args.limit.wide r q

-- what was joined, by the result that it became
joined_ok : (P : Type 0) (o : Option ℕ) (x v : ℕ) (e : AtoiSimdError) → SomeIff o P x → ok_or o e ≡ Ok v → P × (v ≡ x)
joined_ok P (Some y) x v e iff is = let same : y ≡ v = cc in (iff.0, sym same ∙ iff.1)
joined_ok P None x v e iff is = let z : ◌≡◌ {A = ℕ} 0 1 = cc in absurd (omega arith)

joined_err : (P : Type 0) (o : Option ℕ) (x : ℕ) (e f : AtoiSimdError) → SomeIff o P x → ok_or o e ≡ Err f → (P → ⊥) × (f ≡ e)
joined_err P (Some y) x e f iff is = let z : ◌≡◌ {A = ℕ} 0 1 = cc in absurd (omega arith)
joined_err P None x e f iff is = let same : e ≡ f = cc in (iff, sym same)

pub returns-in-loop-v-clause-value : goal.returns-in-loop-v-clause-value
returns-in-loop-v-clause-value c =
    let r = full (goal.at.returns-in-loop-v-clause-value c).In-Ok in
    let q = more (goal.at.returns-in-loop-v-clause-value c).In-Ok-parse_8 in
    let j = joined_ok _ _ _ _ _ c.joined.ensures (rw c.ok_or.ensures.value at c.in_ok-value.was) in
    ap (λ x. ok (pos x) (c.in-Ok-parse_8.v.1 + 16 + c.loop-v.skipped)) j.1
    ∙ reads c.args.limit.max c.loop-v.invariant c.args.limit.wide r q c.args.limit.len_more c.args.limit.digits c.if-len-limit.false j.0

pub returns-in_err-value-clause-value : goal.returns-in_err-value-clause-value
returns-in_err-value-clause-value c =
    let r = full (goal.at.returns-in_err-value-clause-value c).In-Ok in
    let q = more (goal.at.returns-in_err-value-clause-value c).In-Ok-parse_8 in
    let p = err_from_is_err_and c.from_residual.result c.from_residual.ensures.1 in
    let j = joined_err _ _ _ _ _ c.joined.ensures (rw c.ok_or.ensures.value at c.in_err-value.was) in
    let above : c.args.limit.max < c.in-Ok.v * 10 ^ c.in-Ok-parse_8.v.1 + c.in-Ok-parse_8.v.0 = omega (arith, j.0) in
    rw (p.1, p.2) (rw j.1 (over c.args.limit.max c.loop-v.invariant c.args.limit.wide r q c.args.limit.len_more c.args.limit.digits c.if-len-limit.false above))
