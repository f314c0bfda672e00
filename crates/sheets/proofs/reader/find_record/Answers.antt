use Rattle.std.proofs.Common.{◌≡◌, ◌+◌, ◌-◌, ◌*◌, ◌^◌, ◌<◌, min, length, ap, arith, rules}
use Rattle.std.proofs.lemmas.Result.{err_from_is_err_and}
use Rattle.records.specs.Line.{first, second}
use Rattle.records.specs.Payload.{payload_size}
use Rattle.sheets.proofs.Standing.{in_first, in_second, in_neither, record_checked}
use Rattle.sheets.proofs.reader.find_record.Goals as goal
use Rattle.sheets.proofs.reader.find_record.Goals.{else-section-eq1-via-then-section-eq1+else-i-first, else-section-eq1-via-else-section-eq1}
use Rattle.sheets.proofs.reader.find_record.Goals.{else-section-eq2-via-then-section-eq2+else-i-second, else-section-eq2-via-else-section-eq2}

pub returns-in_err-row_in-clause-checked : goal.returns-in_err-row_in-clause-checked
returns-in_err-row_in-clause-checked g c =
    let p = err_from_is_err_and c.from_residual.result c.from_residual.ensures.1 in
    rw (p.1, p.2)
    (record_checked g.A.RecordKind.means g.B.RecordKind.means c.args.bytes.now c.args.first c.args.second c.args.section c.args.i _
    (in_first g.A.RecordKind.means g.B.RecordKind.means c.args.bytes.now c.args.first c.args.second c.args.section c.args.i
    c.if-section-eq1.true c.if-i-first.true (c.in_err-row_in.ensures first)))

pub returns-then-i-first-clause-checked : goal.returns-then-i-first-clause-checked
returns-then-i-first-clause-checked g c =
    record_checked g.A.RecordKind.means g.B.RecordKind.means c.args.bytes.now c.args.first c.args.second c.args.section c.args.i _
    (in_first g.A.RecordKind.means g.B.RecordKind.means c.args.bytes.now c.args.first c.args.second c.args.section c.args.i
    c.if-section-eq1.true c.if-i-first.true (c.in_ok-row_in.ensures first))

pub returns-in_err-row_in-2 : goal.returns-in_err-row_in-2
returns-in_err-row_in-2 g c =
    let a = g.A.RecordKind in
    let b = g.B.RecordKind in
    let few : length c.args.bytes.now < 2 ^ 63 = search rules in
    let size = ap (λ s. c.args.first * s) c.record_size.ensures.value in
    let mul = c.saturating_mul.ensures in
    let add = c.saturating_add-from.ensures in
    let from : c.saturating_add-from.result ≡ min (12 + c.args.first * payload_size a.means.types) (2 ^ 64 - 1) = omega arith in
    let p = err_from_is_err_and c.from_residual-in_err-row_in-2.result c.from_residual-in_err-row_in-2.ensures.1 in
    let value = in_second a.means b.means c.args.bytes.now c.args.first c.args.second c.args.section c.args.i c.saturating_add-from.result
    c.if-section-eq2.true c.if-i-second.true from few (c.in_err-row_in-2.ensures second) in
    rw (p.1, p.2) (record { value = value; checked = record_checked a.means b.means c.args.bytes.now c.args.first c.args.second c.args.section c.args.i _ value })

pub returns-then-i-second : goal.returns-then-i-second
returns-then-i-second g c =
    let a = g.A.RecordKind in
    let b = g.B.RecordKind in
    let few : length c.args.bytes.now < 2 ^ 63 = search rules in
    let size = ap (λ s. c.args.first * s) c.record_size.ensures.value in
    let mul = c.saturating_mul.ensures in
    let add = c.saturating_add-from.ensures in
    let from : c.saturating_add-from.result ≡ min (12 + c.args.first * payload_size a.means.types) (2 ^ 64 - 1) = omega arith in
    let value = in_second a.means b.means c.args.bytes.now c.args.first c.args.second c.args.section c.args.i c.saturating_add-from.result
    c.if-section-eq2.true c.if-i-second.true from few (c.in_ok-row_in-2.ensures second) in
    record { value = value; checked = record_checked a.means b.means c.args.bytes.now c.args.first c.args.second c.args.section c.args.i _ value }

pub returns-clause-checked : goal.returns-clause-checked
returns-clause-checked g c =
    let a = g.A.RecordKind.means in
    let b = g.B.RecordKind.means in
    record_checked a b c.args.bytes.now c.args.first c.args.second c.args.section c.args.i _
    (in_neither a b c.args.bytes.now c.args.first c.args.second c.args.section c.args.i
    (λ e. elim c.else-section-eq1.branch [
      | else-section-eq1-via-then-section-eq1+else-i-first w ↦ w.if-i-first.false
      | else-section-eq1-via-else-section-eq1 w ↦ absurd (w.if-section-eq1.false e)
    ])
    (λ e. elim c.else-section-eq2.branch [
      | else-section-eq2-via-then-section-eq2+else-i-second w ↦ w.if-i-second.false
      | else-section-eq2-via-else-section-eq2 w ↦ absurd (w.if-section-eq2.false e)
    ]))
