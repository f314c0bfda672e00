use Rattle.std.proofs.Common.{◌≡◌, ◌+◌, ◌≤◌, length, drop}
use Rattle.records.specs.Text.{lines_of}
use Rattle.linecheck.specs.Said.{as_step, as_limit, as_refused, as_empty, count}
use Rattle.linecheck.proofs.report.Given as goal

-- what is counted so far, with what the lines left count for, is what all lines count for
abbrev pub invariant-loop-line : goal.invariant-loop-line
invariant-loop-line g l =
    let left = lines_of (drop l.line-iterator.at l.line-iterator.text.now) in
    let all = lines_of l.text in
    (goal.iterator-loop-line g).can_next l.line-iterator × (goal.iterator-loop-line g).is_finite l.line-iterator
    × (length all ≤ length l.text)
    × (l.account.lines + length left ≡ length all)
    × (l.account.steps + count as_step left ≡ count as_step all)
    × (l.account.limits + count as_limit left ≡ count as_limit all)
    × (l.account.refused + count as_refused left ≡ count as_refused all)
    × (l.account.empty + count as_empty left ≡ count as_empty all)
