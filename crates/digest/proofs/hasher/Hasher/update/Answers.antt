use Rattle.std.proofs.Common.{◌≡◌, ℕ, ◌-◌, ◌/◌, List, ◌++◌, length, sym, ap, ◌∙◌, fold, take-append-drop, arith}
use Rattle.std.specs.Simd.{first_chunks}
use Rattle.digest.specs.Sha256.{compressed}
use Rattle.digest.proofs.Absorbing.{absorbs_many}
use Rattle.digest.proofs.Blocks.{hashed_in_turn}
use Rattle.digest.proofs.hasher.Hasher.update.Goals as goal

pub returns : goal.returns
returns c =
    λ m a.
    let after : List ℕ = c.in-Some.after.now in
    let parts = c.in-Some.ensures.cases in
    let split = (λ i. parts.1 i ++ parts.2 i) ∙ take-append-drop _ c.args.more.now in
    let room = c.remaining_capacity.ensures in
    let size = parts.3 in
    let long : length c.in-Some.first.now ≡ 64 - length c.args.self.now.rest.items = omega arith in
    let put = c.try_extend_from_slice-2.ensures.ok in
    let held : List ℕ = c.try_extend_from_slice-2.new.self.items in
    let begun = c.compress_all-self.ensures ∙ ap (fold compressed c.args.self.now.value) (c.as_chunks-2.ensures.front ∙ ap (λ (xs : List ℕ). first_chunks 64 (length xs / 64) xs) c.deref.ensures.0) ∙ sym (hashed_in_turn (length held / 64) c.args.self.now.value held) in
    let value = c.compress_all-self-2.ensures ∙ (λ i. fold compressed (begun i) (c.as_chunks.ensures.front i)) ∙ sym (hashed_in_turn (length after / 64) _ after) in
    let kept = (rw c.unwrap-3.ensures at c.try_extend_from_slice-3.ensures.ok) ∙ ap (λ (l : List ℕ). l ++ c.as_chunks.result.1.now) c.new-self.ensures in
    absorbs_many c.args.self.now m c.args.more.now c.in-Some.first.now after c.as_chunks.result.1.now held c.try_extend_from_slice-3.new.self c.compress_all-self-2.result
    split long (rw c.unwrap-2.ensures at put) value c.as_chunks.ensures.back kept a
