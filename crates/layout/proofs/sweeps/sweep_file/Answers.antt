use Rattle.digest.specs.Digests.{digest_of}
use Rattle.std.specs.declared.alloc.Global.{Global}
use Rattle.std.proofs.Common.{◌≡◌, ℕ, List, [], ◌∷◌, ◌++◌, Vec, vec_items, take, sym, ap, ◌∙◌}
use Rattle.std.proofs.lemmas.List.{take_all}
use Rattle.std.specs.Int.{w32, to_be_bytes}
use Rattle.std.specs.List.{flat_map}
use Rattle.layout.specs.Sweeps.{sweep_body}
use Rattle.layout.proofs.sweeps.sweep_file.Goals as goal
use Rattle.layout.proofs.sweeps.sweep_file.Goals.{in-Rests+in_ok-push-in-Rests, in-Waits+in_ok-push-in-Waits+else-loop-number-test, in-Ends+in_ok-push-in-Ends}

pub returns : goal.returns
returns c =
    let body : c.match-sweep.file.items ≡ sweep_body c.args.sweep.now =
    elim c.match-sweep.branch [
      | in-Rests+in_ok-push-in-Rests w ↦ ap (λ (v : Vec ℕ Global). vec_items v) w.file-is ∙ w.in_ok-push-in-Rests.ensures.items ∙ ap (λ (l : List ℕ). l ++ 0 ∷ []) c.new-file.ensures.items ∙ ap sweep_body (sym w.in-Rests.is)
      | in-Waits+in_ok-push-in-Waits+else-loop-number-test w ↦
          let items = w.as_slice-number-items.result.now in
          let kind : w.push-in-Waits.new.self.items ≡ 1 ∷ [] = w.in_ok-push-in-Waits.ensures.items ∙ ap (λ (l : List ℕ). l ++ 1 ∷ []) c.new-file.ensures.items in
          let all : take w.loop-number.number-index items ≡ w.in-Waits.noted.highest = take_all w.loop-number.number-index items w.loop-number-test.false ∙ w.as_slice-number-items.ensures in
          ap (λ (v : Vec ℕ Global). vec_items v) w.file-is ∙ w.loop-number.invariant ∙ (λ i. kind i ++ flat_map (to_be_bytes w32) (all i)) ∙ ap sweep_body (sym w.in-Waits.is)
      | in-Ends+in_ok-push-in-Ends w ↦ ap (λ (v : Vec ℕ Global). vec_items v) w.file-is ∙ w.in_ok-push-in-Ends.ensures.items ∙ ap (λ (l : List ℕ). l ++ 2 ∷ []) c.new-file.ensures.items ∙ ap sweep_body (sym w.in-Ends.is)
    ] in
    let digest : c.as_bytes.result.now ≡ (digest_of (sweep_body c.args.sweep.now)).bytes = c.as_bytes.ensures ∙ ap (λ d. d.bytes) (c.sha256-digest.ensures ∙ ap digest_of (c.deref.ensures.value ∙ body)) in
    c.in_ok-extend_from_slice.ensures.items ∙ (λ i. body i ++ digest i)
