use Rattle.std.proofs.Common.{◌≤◌, length}
use Rattle.check_statement.proofs.read_input.Given as goal

abbrev pub invariant-loop : goal.invariant-loop
invariant-loop l = l.len ≤ length l.bytes
