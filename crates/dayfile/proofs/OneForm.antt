-- A day has one day file, and a day file one day.
-- Assumes nothing.
use Rattle.std.proofs.Common.{◌≡◌, ℕ, ◌^◌, List, [], ◌++◌, length, take, Option, Some, refl, sym, ap, ◌∙◌, arith}
use Rattle.std.proofs.lemmas.List.{append-nil, append_cancel_left, length-append, take_at}
use Rattle.std.specs.Int.{w16, to_be_bytes}
use Rattle.std.specs.List.{flat_map}
use Rattle.digest.specs.Digests.{digest_of}
use Rattle.digest.specs.Sha256.{big_endian, joined_words, sha256, word_bytes}
use Rattle.store.specs.declared.day.DayName.{DayName}
use Rattle.dayfile.specs.Entries.{Entry}
use Rattle.dayfile.specs.Form.{body, day_file, entry_bytes}
use Rattle.dayfile.specs.Limits.{AreFiles, IsEntry}
use Rattle.dayfile.specs.Reading.{◌>>=◌, number_at, many_at, entry_at}
use Rattle.dayfile.specs.Reads.{head}
use Rattle.dayfile.proofs.Fields.{wide16, number_again, many_again, entry_again, some_is}

-- a digest has 32 bytes
pub digest_length : (m : List ℕ) → length (digest_of m).bytes ≡ 32
unfolding digest_of sha256 joined_words word_bytes big_endian
digest_length m = refl

-- bytes with their digest behind them tell which bytes they are
pub same_signed : (a b : List ℕ) → a ++ (digest_of a).bytes ≡ b ++ (digest_of b).bytes → a ≡ b
same_signed a b e =
    let lengths : length b ≡ length a = omega (arith, digest_length a, digest_length b, length-append a (digest_of a).bytes, length-append b (digest_of b).bytes, ap length e) in
    sym (take_at a (digest_of a).bytes (length a) refl) ∙ ap (take (length a)) e ∙ take_at b (digest_of b).bytes (length a) lengths

-- the files, behind how many they are
abbrev pub files_bytes : List Entry → List ℕ
files_bytes es = to_be_bytes w16 (length es) ++ flat_map entry_bytes es

abbrev pub all_at : List ℕ → Option (List Entry × List ℕ)
all_at bytes = number_at w16 bytes >>= λ n. many_at entry_at n.0 n.1

-- they are read again
pub many_files_again : (es : List Entry) → AreFiles es → many_at entry_at (length es) (flat_map entry_bytes es) ≡ Some (es, [])
many_files_again es h = ap (many_at entry_at (length es)) (sym (append-nil (flat_map entry_bytes es))) ∙ many_again entry_at entry_bytes IsEntry entry_again es [] h.each

pub count_again : (es : List Entry) → AreFiles es → number_at w16 (files_bytes es) ≡ Some (length es, flat_map entry_bytes es)
count_again es h = number_again w16 (2 ^ 16) wide16 (length es) (flat_map entry_bytes es) (omega (arith, h.count))

all_again : (es : List Entry) → AreFiles es → all_at (files_bytes es) ≡ Some (es, [])
all_again es h = ap (λ o. o >>= λ n. many_at entry_at n.0 n.1) (count_again es h) ∙ many_files_again es h

-- one string is the day file of no two lists of files
pub one_form : (d : DayName) (es fs : List Entry) → AreFiles es → AreFiles fs → day_file d es ≡ day_file d fs → es ≡ fs
one_form d es fs h k e =
    let same : files_bytes es ≡ files_bytes fs = append_cancel_left (head d) (files_bytes es) (files_bytes fs) (same_signed (body d es) (body d fs) e) in
    ap (λ x. x.0) (some_is (es, []) (fs, []) (sym (all_again es h) ∙ ap all_at same ∙ all_again fs k))
