use Rattle.std.proofs.Common.{inl, refl}
use Rattle.store.proofs.memory.MemoryStore.keep.Goals as goal

pub returns : goal.returns
returns c = inl refl
