-- Words that are taken in, one after the other.
-- Assumes nothing.
use Rattle.std.proofs.Common.{◌≡◌, ◌⊎◌, ℕ, ◌+◌, ◌<◌, ◌≤◌, Bool, true, false, cond, List, ◌∷◌, length, get_or, drop, map, Bor, codes, Ok, Err, Result, refl, sym, ap, ◌∙◌, inl, inr}
use Rattle.std.specs.Prelude.{nat_eq, MatchResult}
use Rattle.std.specs.List.{starts_with}
use Rattle.std.proofs.lemmas.List.{drop_all, drop_more}
use Rattle.commands.specs.declared.arguments.Fault.{Fault}
use Rattle.commands.specs.declared.arguments.Fault.TheVariants.{NoFolder, NoMemory}
use Rattle.commands.specs.declared.arguments.Kind.TheVariants.{Help, Progress, Store, StoreIs, NoOption, Argument}
use Rattle.commands.specs.Arguments.{Said, Takes, after, after_all, follow, kind_by, naming, saying}

only_there : (a b c d e : Bool) → cond a Help (cond b Progress (cond c Store (cond d StoreIs (cond e NoOption Argument)))) ≡ StoreIs → d ≡ true
only_there true b c d e h = absurd cc
only_there false true c d e h = absurd cc
only_there false false true d e h = absurd cc
only_there false false false true e h = refl
only_there false false false false true h = absurd cc
only_there false false false false false h = absurd cc

-- such a word begins so
pub has_folder : (w : List ℕ) → kind_by w ≡ StoreIs → starts_with nat_eq w (codes "--store=") ≡ true
has_folder w is = only_there _ _ _ _ _ is

-- the folder is in the word
pub takes_folder : (tells : Bool) (w f : List ℕ) (s t : Said) (r : Result Unit Fault) → s.awaits ≡ false → kind_by w ≡ StoreIs → f ≡ drop 8 w → MatchResult r (λ _. naming f s ≡ Ok t) (λ e. naming f s ≡ Err e) → Takes tells w s r t
takes_folder tells w f s t r free kind same named = go r named
  where
    is : after tells w s ≡ naming f s
    is = ap (λ (b : Bool). cond b (naming w s) (saying tells w s (kind_by w))) free ∙ ap (saying tells w s) kind ∙ ap (λ (g : List ℕ). naming g s) (sym same)

    go : (r : Result Unit Fault) → MatchResult r (λ _. naming f s ≡ Ok t) (λ e. naming f s ≡ Err e) → Takes tells w s r t
    go (Ok u) h = is ∙ h
    go (Err e) h = inr (is ∙ h)

abbrev pub values : List (Bor (List ℕ)) → List (List ℕ)
values ws = map (λ w. w.now) ws

-- a word is followed by the others
parts : (ws : List (Bor (List ℕ))) (i : ℕ) (d : Bor (List ℕ)) → i < length ws → values (drop i ws) ≡ (get_or ws i d).now ∷ values (drop (i + 1) ws)
parts ws i d below = ap values (drop_more ws i d below)

-- a word that is right
pub goes_on : (tells : Bool) (ws : List (Bor (List ℕ))) (i : ℕ) (d : Bor (List ℕ)) (s t : Said) (total : Result Said (List ℕ × Fault)) → i < length ws → after tells (get_or ws i d).now s ≡ Ok t → after_all tells (values (drop i ws)) s ≡ total → after_all tells (values (drop (i + 1) ws)) t ≡ total
unfolding after_all
goes_on tells ws i d s t total below right so_far =
    let one : after_all tells (values (drop i ws)) s ≡ follow (get_or ws i d).now (λ u. after_all tells (values (drop (i + 1) ws)) u) (after tells (get_or ws i d).now s) = ap (λ (l : List (List ℕ)). after_all tells l s) (parts ws i d below) in
    sym (ap (follow (get_or ws i d).now (λ u. after_all tells (values (drop (i + 1) ws)) u)) right) ∙ sym one ∙ so_far

-- a word with a fault
pub stops : (tells : Bool) (ws : List (Bor (List ℕ))) (i : ℕ) (d : Bor (List ℕ)) (s : Said) (f : Fault) (total : Result Said (List ℕ × Fault)) → i < length ws → (f ≡ NoMemory) ⊎ (after tells (get_or ws i d).now s ≡ Err f) → after_all tells (values (drop i ws)) s ≡ total → (f ≡ NoMemory) ⊎ (total ≡ Err ((get_or ws i d).now, f))
unfolding after_all
stops tells ws i d s f total below (inl none) so_far = inl none
stops tells ws i d s f total below (inr wrong) so_far =
    let one : after_all tells (values (drop i ws)) s ≡ follow (get_or ws i d).now (λ u. after_all tells (values (drop (i + 1) ws)) u) (after tells (get_or ws i d).now s) = ap (λ (l : List (List ℕ)). after_all tells l s) (parts ws i d below) in
    inr (sym so_far ∙ one ∙ ap (follow (get_or ws i d).now (λ u. after_all tells (values (drop (i + 1) ws)) u)) wrong)

-- no word is left, and the last was no `--store`, or it was
pub ends : (tells : Bool) (ws : List (Bor (List ℕ))) (i : ℕ) (s : Said) (total : Result Said (List ℕ × Fault)) → length ws ≤ i → after_all tells (values (drop i ws)) s ≡ total → total ≡ cond s.awaits (Err (codes "--store", NoFolder)) (Ok s)
unfolding after_all
ends tells ws i s total past so_far = sym so_far ∙ ap (λ (l : List (Bor (List ℕ))). after_all tells (values l) s) (drop_all i ws past)
