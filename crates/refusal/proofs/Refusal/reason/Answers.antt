-- Each text is the one that the definition gives: the search breaks off at the longer ones.
use Rattle.std.proofs.Common.{sym, ap}
use Rattle.refusal.specs.Refusals.{reason_of}
use Rattle.refusal.proofs.Refusal.reason.Goals as goal

pub returns-in-NumberOutOfRange : goal.returns-in-NumberOutOfRange
returns-in-NumberOutOfRange c = ap reason_of (sym c.in-NumberOutOfRange.is)

pub returns-in-NoLawfulCurve : goal.returns-in-NoLawfulCurve
returns-in-NoLawfulCurve c = ap reason_of (sym c.in-NoLawfulCurve.is)

pub returns-in-NoFreePlace : goal.returns-in-NoFreePlace
returns-in-NoFreePlace c = ap reason_of (sym c.in-NoFreePlace.is)

pub returns-in-NotInForce : goal.returns-in-NotInForce
returns-in-NotInForce c = ap reason_of (sym c.in-NotInForce.is)

pub returns-in-StageOffCurve : goal.returns-in-StageOffCurve
returns-in-StageOffCurve c = ap reason_of (sym c.in-StageOffCurve.is)

pub returns-in-ParcelLength : goal.returns-in-ParcelLength
returns-in-ParcelLength c = ap reason_of (sym c.in-ParcelLength.is)

pub returns-in-Header : goal.returns-in-Header
returns-in-Header c = ap reason_of (sym c.in-Header.is)

pub returns-in-TooShort : goal.returns-in-TooShort
returns-in-TooShort c = ap reason_of (sym c.in-TooShort.is)

pub returns-in-OtherPoints : goal.returns-in-OtherPoints
returns-in-OtherPoints c = ap reason_of (sym c.in-OtherPoints.is)

pub returns-in-SerialUsedUp : goal.returns-in-SerialUsedUp
returns-in-SerialUsedUp c = ap reason_of (sym c.in-SerialUsedUp.is)

pub returns-in-TextLength : goal.returns-in-TextLength
returns-in-TextLength c = ap reason_of (sym c.in-TextLength.is)

pub returns-in-Mode : goal.returns-in-Mode
returns-in-Mode c = ap reason_of (sym c.in-Mode.is)
