-- What the reader's answer says. Document 01, "Each operation's turn-downs: Net text": "A refusal gives number and line (from 1), no net".
use Rattle.std.specs.Prelude.{◌≡◌, Result, Ok, Err}
use Rattle.std.proofs.Math.Option.{none}
use Rattle.refusals.specs.Number.{number_of}
use Rattle.net.specs.Readable.{readable, labels}
use Rattle.net.specs.Readable as Readable
use Rattle.text.specs.Text.{Bytes}
use Rattle.net_text.specs.Reading.{Answer, given, refused, read}
use Rattle.net_text.specs.Filled.{record_of}
use Rattle.net_text.specs.Position.{run_of}
use Rattle.net_text.specs.declared.NetText.{NetText}
use Rattle.net_text.specs.declared.TurnedDown.{TurnedDown}

-- the net, its labels and the run line that the answer gives, or its refusal's number and line
abbrev pub meaning : Result NetText TurnedDown → Answer
meaning (Ok r) = given (readable r.net) (labels r.net) (run_of r.run)
meaning (Err e) = refused (number_of e.refusal) e.line

-- the record, every slot of it: that which the text fills; a text that is turned down gives none
abbrev pub RecordBy : Bytes → Result NetText TurnedDown → Type 0
RecordBy t (Ok r) = r.net ≡ record_of t
RecordBy t (Err e) = Unit {0}

-- a net that is given is accepted as data
abbrev pub AcceptedBy : Result NetText TurnedDown → Type 0
AcceptedBy (Ok r) = Readable.fault r.net ≡ none
AcceptedBy (Err e) = Unit {0}

-- the answer to a text is what the rules read in it; its record is fixed whole; and a net that is given is accepted, as data, by every other
-- operation: the tests 2 to 7, 17 and 18 find no fault
pub record NetRead (t : Bytes) (r : Result NetText TurnedDown) : Type 0 where
  pub is : meaning r ≡ read t
  pub slots : RecordBy t r
  pub passes : AcceptedBy r
