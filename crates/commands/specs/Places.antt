-- Machines and days as they are named.
-- Assumes nothing.
use Rattle.std.specs.Prelude.{ℕ, ◌^◌, ◌&&◌, cond, nat_lt, Ok, Err, Result}
use Rattle.cutting.specs.declared.refusal.Refusal.{Refusal}
use Rattle.cutting.specs.declared.refusal.Refusal.TheVariants.{Unknown}
use Rattle.store.specs.declared.day.DayName.{DayName}

-- the machine of this number: there are 64 at most
abbrev pub machine_by : ℕ → Result ℕ Refusal
machine_by n = cond (nat_lt n 64) (Ok n) (Err Unknown)

-- the day of this number of this machine: numbers of days have 32 bits
abbrev pub day_by : ℕ → ℕ → Result DayName Refusal
day_by m n = cond (nat_lt m 64 && nat_lt n (2 ^ 32)) (Ok (record { machine = m; number = n })) (Err Unknown)
