-- Files that are had back in a world that is reached.
-- Assumes nothing.
use Rattle.std.proofs.Common.{ℕ, ◌<◌, inl, inr, List, Result, Vec, Global, refl, arith}
use Rattle.cutting.specs.declared.refusal.Refusal.{Refusal}
use Rattle.store.specs.Memories.{state_of}
use Rattle.store.specs.State.{most_machines}
use Rattle.promise.proofs.Bounds.{bounds}
use Rattle.promise.proofs.Returns.{listed_files_come_back}
use Rattle.rehearsal.specs.declared.world.World.{World}
use Rattle.rehearsal.specs.Acts.{memory_does}
use Rattle.rehearsal.specs.Numbering.{machine_numbers}
use Rattle.rehearsal.specs.Systems.{GivesBack, system_of}
use Rattle.rehearsal.specs.Worlds.{HasBack}
use Rattle.rehearsal.proofs.Reached.{are_machines}

pub gives_back : (i k : ℕ) (path : List ℕ) (w v : World) (a : Result (Vec ℕ Global) Refusal) → HasBack i k path w a v → GivesBack i k path w a
gives_back i k path w v a (inl (l, x, y)) u reached run es file h c some =
    listed_files_come_back memory_does state_of (λ s t q b z. z) machine_numbers are_machines u (system_of w) reached run (record { machine = i; number = k }) es path file h c some w.store v.store a refl x
gives_back i k path w v a (inr (l, e, same)) u reached run es file h c some =
    let found : i < most_machines = ((bounds machine_numbers are_machines reached).days (record { machine = i; number = k }) _ h.1).machine in
    absurd (omega (arith, l, found))
