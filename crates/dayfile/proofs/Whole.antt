-- The bytes of a whole day file.
-- Assumes nothing.
use Rattle.std.proofs.Common.{◌≡◌, ℕ, ◌+◌, ◌<◌, ◌^◌, List, [], ◌++◌, length, None, Some, sym, ap, subst, ◌∙◌, arith, inl, inr}
use Rattle.std.proofs.lemmas.Bool.{cases_lt}
use Rattle.std.proofs.lemmas.List.{append-nil, append_cancel_left, get_or-append-add, get_or_append_left, get_or_past}
use Rattle.std.specs.Int.{w16, to_be_bytes}
use Rattle.std.specs.List.{flat_map}
use Rattle.digest.specs.Digests.{digest_of}
use Rattle.store.specs.declared.day.DayName.{DayName}
use Rattle.dayfile.specs.Entries.{Entry}
use Rattle.dayfile.specs.Stored.{IsDayOf}
use Rattle.dayfile.specs.Form.{body, day_file, entry_bytes}
use Rattle.dayfile.specs.Limits.{AreFiles}
use Rattle.dayfile.specs.Reading.{number_at, many_at, entry_at}
use Rattle.dayfile.specs.Reads.{head}
use Rattle.dayfile.proofs.Fields.{IsBytes, entry_takes, many_takes, number_takes, some_is, wide16}
use Rattle.dayfile.proofs.Loop.{NoDay}
use Rattle.dayfile.proofs.OneForm.{count_again, files_bytes, many_files_again, same_signed}

IsBytes-front : (a b : List ℕ) → IsBytes (a ++ b) → IsBytes a
IsBytes-front a b h i =
    elim (cases_lt i (length a)) [
      | inl lt ↦ rw (sym (get_or_append_left a b 0 i lt)) (h i)
      | inr le ↦ rw (get_or_past a i 0 le) (omega arith)
    ]

IsBytes-back : (a b : List ℕ) → IsBytes (a ++ b) → IsBytes b
IsBytes-back a b h i = rw (sym (get_or-append-add a b i 0)) (h (length a + i))

-- the bytes are a body with its digest, and it begins with the name of the day
pub record Opens (d : DayName) (bytes whole rest : List ℕ) : Type 0 where
  pub signed : bytes ≡ whole ++ (digest_of whole).bytes
  pub begins : whole ≡ head d ++ rest

module _ (d : DayName) (bytes whole rest : List ℕ) where
  -- the rest is then that of the one list of files whose day file the bytes may be
  pub rest_is : Opens d bytes whole rest → (es : List Entry) → bytes ≡ day_file d es → rest ≡ files_bytes es
  rest_is o es e = append_cancel_left (head d) rest (files_bytes es) (sym o.begins ∙ same_signed whole (body d es) (sym o.signed ∙ e))

  pub no_head : bytes ≡ whole ++ (digest_of whole).bytes → ((rest : List ℕ) → whole ≡ head d ++ rest → ⊥) → (es : List Entry) → IsDayOf d es bytes → ⊥
  no_head signed none es (h, e) = none (files_bytes es) (same_signed whole (body d es) (sym signed ∙ e))

  pub no_count : Opens d bytes whole rest → number_at w16 rest ≡ None → (es : List Entry) → IsDayOf d es bytes → ⊥
  no_count o none es (h, e) =
      let some = ap (number_at w16) (rest_is o es e) ∙ count_again es h in
      absurd cc

  -- the files that are read are then those
  pub files_are : (count : ℕ) (after : List ℕ) → Opens d bytes whole rest → number_at w16 rest ≡ Some (count, after) → (es : List Entry) → AreFiles es → bytes ≡ day_file d es → many_at entry_at count after ≡ Some (es, [])
  files_are count after o counted es h e =
      let same = some_is (count, after) (length es, flat_map entry_bytes es) (sym counted ∙ ap (number_at w16) (rest_is o es e) ∙ count_again es h) in
      ap (λ x. many_at entry_at x.0 x.1) same ∙ many_files_again es h

  pub no_day : (count : ℕ) (after : List ℕ) → Opens d bytes whole rest → number_at w16 rest ≡ Some (count, after) → NoDay (many_at entry_at count after) → (es : List Entry) → IsDayOf d es bytes → ⊥
  no_day count after o counted none es (h, e) = none es [] (files_are count after o counted es h e) h

  -- nothing follows them
  pub no_more : (count : ℕ) (after : List ℕ) (fs : List Entry) (more : List ℕ) → Opens d bytes whole rest → number_at w16 rest ≡ Some (count, after) → many_at entry_at count after ≡ Some (fs, more) → 0 < length more
      → (es : List Entry) → IsDayOf d es bytes → ⊥
  no_more count after fs more o counted read some es (h, e) =
      let none : more ≡ [] = ap (λ x. x.1) (some_is (fs, more) (es, []) (sym read ∙ files_are count after o counted es h e)) in
      absurd (omega (arith, ap length none))

  -- the bytes are the day file of the files that are read
  pub is_day_file : (count : ℕ) (after : List ℕ) (es : List Entry) (more : List ℕ) → IsBytes bytes → Opens d bytes whole rest → number_at w16 rest ≡ Some (count, after) → many_at entry_at count after ≡ Some (es, more) → more ≡ []
      → bytes ≡ day_file d es
  is_day_file count after es more fits o counted read none =
      let whole_fits : IsBytes whole = IsBytes-front whole (digest_of whole).bytes (subst IsBytes o.signed fits) in
      let rest_fits : IsBytes rest = IsBytes-back (head d) rest (subst IsBytes o.begins whole_fits) in
      let first = number_takes w16 (2 ^ 16) wide16 rest (count, after) rest_fits counted in
      let files = many_takes entry_at entry_bytes entry_takes count after (es, more) first.rest_fits read in
      let same : rest ≡ files_bytes es = first.parts ∙ ap (λ n. to_be_bytes w16 n ++ after) (sym files.1) ∙ ap (λ r. to_be_bytes w16 (length es) ++ r) (files.0.parts ∙ ap (λ r. flat_map entry_bytes es ++ r) none ∙ append-nil (flat_map entry_bytes es)) in
      let named : whole ≡ body d es = o.begins ∙ ap (λ r. head d ++ r) same in
      o.signed ∙ ap (λ w. w ++ (digest_of w).bytes) named
