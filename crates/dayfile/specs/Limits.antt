-- Which files a day may have.
-- Assumes nothing.
use Rattle.std.specs.Prelude.{◌≡◌, ℕ, ◌≤◌, List, [], length, map, refl}
use Rattle.std.specs.Cmp.Lexicographic.{slice_cmp}
use Rattle.std.specs.Coded.{Coded, Coded-set, code_by, coded_list, coded_ℕ, le_prop, →_prop}
use Rattle.std.specs.List.{AllByRecursion, AllByRecursion-prop}
use Rattle.std.specs.List.Sorted.{IsStrictlySortedBy}
use Rattle.std.specs.Ordering.{nat_cmp}
use Rattle.std.specs.declared.cmp.Ordering.{Ordering}
use Rattle.std.specs.List.Sorted.{IsStrictlySortedBy-prop}
use Rattle.digest.specs.declared.value.Digest.{Digest}
use Rattle.cutting.specs.Rule.{most_in_file}
use Rattle.dayfile.specs.Entries.{Entry}

-- a day has at most so many files, a path so many bytes, and a file so many pieces
abbrev pub most_files : ℕ
most_files = 4096

abbrev pub most_in_path : ℕ
most_in_path = 255

abbrev pub most_pieces : ℕ
most_pieces = 65535

-- paths are in the order of their bytes, and a path comes before each longer one that begins with it
abbrev pub path_cmp : List ℕ → List ℕ → Ordering
path_cmp p q = slice_cmp nat_cmp p q

-- a path has from 1 to 255 bytes
pub record IsPath (path : List ℕ) : Type 0 where
  pub least : 1 ≤ length path
  pub most : length path ≤ most_in_path

-- what a file in a day may be: one of no bytes has no pieces, and a name has 32 bytes
pub record IsEntry (e : Entry) : Type 0 where
  pub path : IsPath e.path
  pub bytes : e.length ≤ most_in_file
  pub count : length e.pieces ≤ most_pieces
  pub none : e.length ≡ 0 → e.pieces ≡ []
  pub names : AllByRecursion (λ n. length n.bytes ≡ 32) e.pieces

-- what the files of a day may be: each path is above the one before it
pub record AreFiles (es : List Entry) : Type 0 where
  pub count : length es ≤ most_files
  pub each : AllByRecursion IsEntry es
  pub rising : IsStrictlySortedBy path_cmp (map (λ e. e.path) es)

-- each of these has one proof at most
coded_name : Coded Digest
coded_name = code_by (List ℕ) (coded_list coded_ℕ) (λ n. n.bytes) (λ b. record { bytes = b }) (λ n. refl)

pub IsPath-prop : (path : List ℕ) → IsProp (IsPath path)
IsPath-prop path x y i = record { least = le_prop x.least y.least i; most = le_prop x.most y.most i }

pub IsEntry-prop : (e : Entry) → IsProp (IsEntry e)
IsEntry-prop e x y i =
    record {
      path = IsPath-prop e.path x.path y.path i;
      bytes = le_prop x.bytes y.bytes i;
      count = le_prop x.count y.count i;
      none = →_prop (Coded-set (coded_list coded_name) e.pieces []) x.none y.none i;
      names = AllByRecursion-prop _ (λ n. Coded-set coded_ℕ (length n.bytes) 32) e.pieces x.names y.names i;
    }

pub AreFiles-prop : (es : List Entry) → IsProp (AreFiles es)
AreFiles-prop es x y i =
    record {
      count = le_prop x.count y.count i;
      each = AllByRecursion-prop IsEntry IsEntry-prop es x.each y.each i;
      rising = IsStrictlySortedBy-prop path_cmp (map (λ e. e.path) es) x.rising y.rising i;
    }
