use Rattle.std.proofs.Common.{◌≡◌, ◌%◌, ◌≤◌, length}
use Rattle.agc_test_support.proofs.file.rope_file.Given as goal

-- whole words, and no more than a rope has
abbrev pub invariant-loop-number : goal.invariant-loop-number
invariant-loop-number l =
    (goal.iterator-loop-number).can_next l.number-iterator ×
    (goal.iterator-loop-number).is_finite l.number-iterator ×
    (length l.bytes.items % 2 ≡ 0) × (length l.bytes.items ≤ 73728)
