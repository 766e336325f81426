-- What a hasher holds, after more bytes.
-- Assumes nothing.
use Rattle.std.proofs.Common.{◌≡◌, ℕ, ◌+◌, ◌-◌, ◌*◌, ◌/◌, ◌%◌, ◌^◌, ◌≤◌, List, ◌++◌, length, take, drop, sym, ap, ◌∙◌, append_assoc, arith, length-append, take-append-drop, length-take-le}
use Rattle.arrayvec.specs.ArrayVec.{ArrayVec}
use Rattle.digest.specs.declared.words.Words.{Words}
use Rattle.digest.specs.declared.hasher.Hasher.{Hasher}
use Rattle.digest.specs.Hasher.{Absorbed}
use Rattle.digest.specs.Sha256.{initial, hashed}
use Rattle.digest.proofs.Blocks.{hashed-append, hashed_left}

-- what lies after the blocks that are hashed does not matter
hashed_front : (k : ℕ) (v : Words) (s : List ℕ) → 64 * k ≤ length s → hashed k v (take (64 * k) s) ≡ hashed k v s
hashed_front k v s h =
    let l : length (take (64 * k) s) ≡ 64 * k = length-take-le (64 * k) s h in
    sym (hashed_left k v (take (64 * k) s) (drop (64 * k) s) (omega arith)) ∙ ap (hashed k v) (take-append-drop (64 * k) s)

regroup : (a b c d : List ℕ) → (a ++ b) ++ (c ++ d) ≡ a ++ ((b ++ c) ++ d)
regroup a b c d = simp append_assoc

regroup_end : (a b c d : List ℕ) → a ++ (b ++ (c ++ d)) ≡ (a ++ (b ++ c)) ++ d
regroup_end a b c d = simp append_assoc

-- as many bytes as complete the block that is begun, and then whole blocks and an end
pub absorbs_many : (h : Hasher) (m more first after end held : List ℕ) (rest : ArrayVec ℕ) (w : Words) → first ++ after ≡ more → length first ≡ 64 - length h.rest.items → held ≡ h.rest.items ++ first
    → w ≡ hashed (length after / 64) (hashed (length held / 64) h.value held) after → end ≡ drop (length after / 64 * 64) after → rest.items ≡ end → Absorbed h m
    → Absorbed (record { value = w; rest = rest; length = (h.length + length more) % 2 ^ 64 }) (m ++ more)
absorbs_many h m more first after end held rest w split long put value ends kept a =
    let k : ℕ = length after / 64 in
    let fits : 64 * k ≤ length after = omega arith in
    let turned : length after / 64 * 64 ≡ 64 * k = omega arith in
    let begun : List ℕ = h.rest.items in
    let hashed_now : List ℕ = take (64 * k) after in
    let parts : hashed_now ++ end ≡ after = ap (λ (l : List ℕ). hashed_now ++ l) (ends ∙ ap (λ (j : ℕ). drop j after) turned) ∙ take-append-drop (64 * k) after in
    let short = a.short in
    let size_held = ap length put ∙ length-append begun first in
    let full : length held ≡ 64 * 1 = omega arith in
    let one : length held / 64 ≡ 1 = omega arith in
    let size_now : length hashed_now ≡ 64 * k = length-take-le (64 * k) after fits in
    let size_parts = ap length parts in
    let size_split = length-append hashed_now end in
    let size_kept = ap length kept in
    let size_all = length-append m more in
    let size_front = length-append a.front (held ++ hashed_now) in
    let size_both = length-append held hashed_now in
    record {
      blocks = a.blocks + (1 + k);
      front = a.front ++ (held ++ hashed_now);
      whole = let z = a.whole in omega arith;
      value = value ∙ ap (λ (n : ℕ). hashed k (hashed n h.value held) after) one
          ∙ ap (λ (x : Words). hashed k (hashed 1 x held) after) a.value
          ∙ sym (hashed_front k (hashed 1 (hashed a.blocks initial a.front) held) after fits)
          ∙ sym (hashed-append 1 k (hashed a.blocks initial a.front) held hashed_now full)
          ∙ sym (hashed-append a.blocks (1 + k) initial a.front (held ++ hashed_now) a.whole);
      rest = (λ i. a.rest i ++ sym split i)
          ∙ regroup a.front begun first after
          ∙ ap (λ (l : List ℕ). a.front ++ (l ++ after)) (sym put)
          ∙ ap (λ (l : List ℕ). a.front ++ (held ++ l)) (sym parts)
          ∙ regroup_end a.front held hashed_now end
          ∙ ap (λ (l : List ℕ). (a.front ++ (held ++ hashed_now)) ++ l) (sym kept);
      short = omega arith;
      size = let z = a.size in omega arith;
    }
