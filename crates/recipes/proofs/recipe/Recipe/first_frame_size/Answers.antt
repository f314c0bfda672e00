use Rattle.std.proofs.Common.{◌≡◌, ℕ, ◌+◌, ◌-◌, ◌*◌, ◌^◌, ◌≤◌, min, length, take, sym, ap, ◌∙◌, mul-le-mul, arith}
use Rattle.std.proofs.lemmas.List.{length-take-le}
use Rattle.records.specs.Payload.{payload_size}
use Rattle.model.specs.History.{usable}
use Rattle.model.specs.Sheet.{frame}
use Rattle.sheets.proofs.Frames.{length-frame}
use Rattle.sheets.proofs.Sizes.{size_few}
use Rattle.recipes.proofs.Written.{live_rows}
use Rattle.recipes.proofs.recipe.Recipe.first_frame_size.Goals as goal

-- so few records of so few bytes are counted exactly
counted : (n l s : ℕ) → n ≤ usable l → s ≤ 64 → min (6 + n * s) (2 ^ 64 - 1) ≡ 6 + n * s
counted n l s h f =
    let many : n ≤ 4096 = omega arith in
    let small : n * s ≤ 4096 * 64 = mul-le-mul many f in
    omega arith

pub returns : goal.returns
returns g c =
    let m = g.A.RecordKind in
    let rows = c.args.self.now.first.now in
    let n = c.args.self.now.first_count in
    let size = payload_size m.means.types in
    let within = c.args.self.now.first_within in
    let exact = counted n (length rows) size within (size_few m.means g.met.A.RecordKind.lawful) in
    c.frame_size.ensures ∙ exact
    ∙ sym (length-frame m.means m.numbers g.met.A.SheetKind.shape (take n rows) ∙ ap (λ j. 6 + j * size) (length-take-le n rows (omega (arith, within))))
    ∙ ap (λ xs. length (frame m.means xs)) (live_rows m.numbers rows n)
