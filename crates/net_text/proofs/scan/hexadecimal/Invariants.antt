-- The digits that are left, behind the value so far and the mark, give the float (Hexadecimal).
use Rattle.net_text.proofs.Hexadecimal.{Read}
use Rattle.net_text.proofs.scan.hexadecimal.Given as goal

abbrev pub invariant-loop-b : goal.invariant-loop-b
invariant-loop-b l = Read l.line l.digits l.rest l.b-index l.bits l.strange
