use Rattle.std.proofs.Common.{inl, refl, subst, ◌+◌}
use Rattle.store.specs.Damages.{flipped}
use Rattle.rehearsal.specs.Worlds.{DayHarmed}
use Rattle.rehearsal.proofs.world.World.flip_day.Goals as goal

pub returns : goal.returns
returns c =
    let named = c.in_ok-day.ensures in
    inl (named.0, subst (λ d. DayHarmed (c.args.at + 1) (flipped c.args.at) d c.args.self.now.store c.flip_day.result c.flip_day.new.self) named.1 c.flip_day.ensures, (refl, refl))
