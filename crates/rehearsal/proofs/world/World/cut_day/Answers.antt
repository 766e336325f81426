use Rattle.std.proofs.Common.{inl, refl, subst, take}
use Rattle.rehearsal.specs.Worlds.{DayHarmed}
use Rattle.rehearsal.proofs.world.World.cut_day.Goals as goal

pub returns : goal.returns
returns c =
    let named = c.in_ok-day.ensures in
    inl (named.0, subst (λ d. DayHarmed c.args.length (take c.args.length) d c.args.self.now.store c.cut_day.result c.cut_day.new.self) named.1 c.cut_day.ensures, (refl, refl))
