-- Loops, go by go.
-- Assumes nothing.
pub use Rattle.store.proofs.Loops.{loop_done, loop_stops, times_more, times_none}
