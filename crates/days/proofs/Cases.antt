-- What a machine makes.
-- Assumes nothing.
use Rattle.std.proofs.Common.{◌≡◌, ap}
use Rattle.std.specs.Prelude.{Some, None}
use Rattle.days.specs.declared.making.Making.{Making}
use Rattle.days.specs.declared.making.Making.TheVariants.{Nothing, Day}
use Rattle.days.specs.declared.making.Underway.{Underway}
use Rattle.days.specs.Machines.{making, work_of}

-- as seen in one of its cases
pub makes_day : (m : Making) (u : Underway) → m ≡ Day u → making m ≡ Some (work_of u)
makes_day m u e = ap making e

pub makes_none : (m : Making) → m ≡ Nothing → making m ≡ None
makes_none m e = ap making e
