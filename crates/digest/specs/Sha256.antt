-- SHA-256 as FIPS 180-4 has it, section by section, of messages that are whole bytes. Its letters are kept where it has one: Ch, Maj, Σ, σ, K, W, T1, T2.
-- A word is a number below 2 ^ 32, a byte a number below 256, a message a list of bytes.
-- The standard defines digests of messages of fewer than 2 ^ 64 bits; of longer ones this takes the length modulo 2 ^ 64.
-- Assumes nothing.
use Rattle.std.specs.Prelude.{ℕ, zero, suc, ◌+◌, ◌-◌, ◌*◌, ◌/◌, ◌%◌, ◌^◌, cond, List, [], ◌∷◌, ◌++◌, length, take, drop, replicate, bit_and, bit_or, bit_xor, nat_lt, slice_index, slice_index_or}
use Rattle.digest.specs.declared.words.Words.{Words}

-- 2.2.2 and 3.2, operations on words

-- the word x shifted to the right by n bits
abbrev pub SHR : ℕ → ℕ → ℕ
SHR n x = x / 2 ^ n

-- the word x shifted to the left by n bits, what passes 32 bits being dropped
abbrev pub SHL : ℕ → ℕ → ℕ
SHL n x = (x * 2 ^ n) % 2 ^ 32

-- the word x rotated to the right by n bits
abbrev pub ROTR : ℕ → ℕ → ℕ
ROTR n x = bit_or (SHR n x) (SHL (32 - n) x)

-- the word x with each bit turned
abbrev pub complement : ℕ → ℕ
complement x = 2 ^ 32 - 1 - x

-- addition modulo 2 ^ 32
infixl 30 ◌⊞◌
abbrev pub ◌⊞◌ : ℕ → ℕ → ℕ
x ⊞ y = (x + y) % 2 ^ 32

-- exclusive or
infixl 25 ◌⊕◌
abbrev pub ◌⊕◌ : ℕ → ℕ → ℕ
x ⊕ y = bit_xor x y

-- 4.1.2, the functions

-- (4.2) of each bit, y's where x has 1, and z's where x has 0
abbrev pub Ch : ℕ → ℕ → ℕ → ℕ
Ch x y z = bit_and x y ⊕ bit_and (complement x) z

-- (4.3) of each bit, what two or three of x, y and z have
abbrev pub Maj : ℕ → ℕ → ℕ → ℕ
Maj x y z = bit_and x y ⊕ bit_and x z ⊕ bit_and y z

-- (4.4) to (4.7), mixtures of a word's rotations and shifts
abbrev pub Σ0 : ℕ → ℕ
Σ0 x = ROTR 2 x ⊕ ROTR 13 x ⊕ ROTR 22 x

abbrev pub Σ1 : ℕ → ℕ
Σ1 x = ROTR 6 x ⊕ ROTR 11 x ⊕ ROTR 25 x

abbrev pub σ0 : ℕ → ℕ
σ0 x = ROTR 7 x ⊕ ROTR 18 x ⊕ SHR 3 x

abbrev pub σ1 : ℕ → ℕ
σ1 x = ROTR 17 x ⊕ ROTR 19 x ⊕ SHR 10 x

-- 4.2.2, the constants K0 to K63

-- in the order of the standard's table, row by row
unfoldable pub K : List ℕ
K =
    0x428a2f98 ∷ 0x71374491 ∷ 0xb5c0fbcf ∷ 0xe9b5dba5 ∷ 0x3956c25b ∷ 0x59f111f1 ∷ 0x923f82a4 ∷ 0xab1c5ed5
    ∷ 0xd807aa98 ∷ 0x12835b01 ∷ 0x243185be ∷ 0x550c7dc3 ∷ 0x72be5d74 ∷ 0x80deb1fe ∷ 0x9bdc06a7 ∷ 0xc19bf174
    ∷ 0xe49b69c1 ∷ 0xefbe4786 ∷ 0x0fc19dc6 ∷ 0x240ca1cc ∷ 0x2de92c6f ∷ 0x4a7484aa ∷ 0x5cb0a9dc ∷ 0x76f988da
    ∷ 0x983e5152 ∷ 0xa831c66d ∷ 0xb00327c8 ∷ 0xbf597fc7 ∷ 0xc6e00bf3 ∷ 0xd5a79147 ∷ 0x06ca6351 ∷ 0x14292967
    ∷ 0x27b70a85 ∷ 0x2e1b2138 ∷ 0x4d2c6dfc ∷ 0x53380d13 ∷ 0x650a7354 ∷ 0x766a0abb ∷ 0x81c2c92e ∷ 0x92722c85
    ∷ 0xa2bfe8a1 ∷ 0xa81a664b ∷ 0xc24b8b70 ∷ 0xc76c51a3 ∷ 0xd192e819 ∷ 0xd6990624 ∷ 0xf40e3585 ∷ 0x106aa070
    ∷ 0x19a4c116 ∷ 0x1e376c08 ∷ 0x2748774c ∷ 0x34b0bcb5 ∷ 0x391c0cb3 ∷ 0x4ed8aa4a ∷ 0x5b9cca4f ∷ 0x682e6ff3
    ∷ 0x748f82ee ∷ 0x78a5636f ∷ 0x84c87814 ∷ 0x8cc70208 ∷ 0x90befffa ∷ 0xa4506ceb ∷ 0xbef9a3f7 ∷ 0xc67178f2
    ∷ []

-- 5.1.1, padding

-- the n lowest bytes of a number, the highest of them first
unfoldable pub big_endian : ℕ → ℕ → List ℕ
big_endian zero x = []
big_endian (suc n) x = (x / 256 ^ n % 256) ∷ big_endian n x

-- how many bytes 0 there are between the byte 0x80 and the length: the fewest after which 8 bytes are missing to a whole block
unfoldable pub gap : ℕ → ℕ
gap l = (119 - l % 64) % 64

-- the message, a bit 1 and seven bits 0, bytes 0, and the length in bits as 64 bits
unfoldable pub padded : List ℕ → List ℕ
padded m = m ++ (0x80 ∷ (replicate (gap (length m)) 0 ++ big_endian 8 (8 * length m)))

-- 5.2.1, parsing

-- block i of 64 bytes, counted from 0: the standard's M(i + 1)
unfoldable pub block : ℕ → List ℕ → List ℕ
block i m = take 64 (drop (64 * i) m)

-- word i of a block, of 4 bytes
unfoldable pub word : ℕ → List ℕ → ℕ
word i b = slice_index b (4 * i) * 2 ^ 24 + slice_index b (4 * i + 1) * 2 ^ 16 + slice_index b (4 * i + 2) * 2 ^ 8 + slice_index b (4 * i + 3)

-- 5.3.3, the initial hash value: H0 is the field a, and so on to H7, the field h

unfoldable pub initial : Words
initial = record { a = 0x6a09e667; b = 0xbb67ae85; c = 0x3c6ef372; d = 0xa54ff53a; e = 0x510e527f; f = 0x9b05688c; g = 0x1f83d9ab; h = 0x5be0cd19 }

-- 6.2.2, the hash computation

-- step 1: the word Wt of the schedule, from the block b and, from t = 16 on, the words w before it
unfoldable pub Wt : ℕ → List ℕ → List ℕ → ℕ
Wt t b w = cond (nat_lt t 16) (word t b) (σ1 (slice_index w (t - 2)) ⊞ slice_index_or w (t - 7) 0 ⊞ σ0 (slice_index w (t - 15)) ⊞ slice_index_or w (t - 16) 0)

-- the words w, and Wt after them
unfoldable pub longer : ℕ → List ℕ → List ℕ → List ℕ
longer t b w = w ++ (Wt t b w ∷ [])

-- the words of the schedule below t
unfoldable pub schedule : ℕ → List ℕ → List ℕ
schedule zero b = []
schedule (suc t) b = longer t b (schedule t b)

-- step 3: T1 and T2 of the working variables v, and one round on them, with the constant k and the word w of the schedule
unfoldable pub T1 : Words → ℕ → ℕ → ℕ
T1 v k w = v.h ⊞ Σ1 v.e ⊞ Ch v.e v.f v.g ⊞ k ⊞ w

unfoldable pub T2 : Words → ℕ
T2 v = Σ0 v.a ⊞ Maj v.a v.b v.c

unfoldable pub round : Words → ℕ → ℕ → Words
round v k w = record { a = T1 v k w ⊞ T2 v; b = v.a; c = v.b; d = v.c; e = v.d ⊞ T1 v k w; f = v.e; g = v.f; h = v.g }

-- step 2 and step 3: the working variables begin as the hash value v, and go through the rounds below t, with the schedule w
unfoldable pub rounds : ℕ → Words → List ℕ → Words
rounds zero v w = v
rounds (suc t) v w = round (rounds t v w) (slice_index K t) (slice_index w t)

-- step 4: the sum, word by word, of the hash value before and the working variables
abbrev pub added : Words → Words → Words
added v u = record { a = v.a ⊞ u.a; b = v.b ⊞ u.b; c = v.c ⊞ u.c; d = v.d ⊞ u.d; e = v.e ⊞ u.e; f = v.f ⊞ u.f; g = v.g ⊞ u.g; h = v.h ⊞ u.h }

-- steps 1 to 4: the hash value after the block b, from v before it
unfoldable pub compressed : Words → List ℕ → Words
compressed v b = added v (rounds 64 v (schedule 64 b))

-- steps 1 to 4 for each of n blocks of m, one after the other, from the hash value v
unfoldable pub hashed : ℕ → Words → List ℕ → Words
hashed zero v m = v
hashed (suc i) v m = compressed (hashed i v m) (block i m)

-- the message digest H0 ‖ H1 ‖ .. ‖ H7

-- words one after the other, each as four bytes
unfoldable pub word_bytes : List ℕ → List ℕ
word_bytes [] = []
word_bytes (w ∷ ws) = big_endian 4 w ++ word_bytes ws

-- those of a hash value
unfoldable pub joined_words : Words → List ℕ
joined_words v = word_bytes (v.a ∷ v.b ∷ v.c ∷ v.d ∷ v.e ∷ v.f ∷ v.g ∷ v.h ∷ [])

-- 6.2, SHA-256 of a message: pad it, begin with the initial hash value (6.2.1), and hash all blocks (6.2.2)
unfoldable pub sha256 : List ℕ → List ℕ
sha256 m = joined_words (hashed (length (padded m) / 64) initial (padded m))
