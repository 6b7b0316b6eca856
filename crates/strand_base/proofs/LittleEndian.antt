-- Serves clauses spelling of read_image and read_crash, again of write_image and print_crash: numbers one after the other in a file.
use Rattle.std.proofs.Common.{◌≡◌, ℕ, zero, suc, ◌+◌, ◌*◌, ◌^◌, ◌<◌, ◌≤◌, arith, inl, inr, length, take, drop, get_or, List, [], ◌∷◌, ◌++◌, refl, ap, append_assoc}
use Rattle.std.specs.List.{flat_map}
use Rattle.std.proofs.lemmas.List.{drop-drop, length-drop, length-take, length-take-le, length-append, take-append-drop, get_or-take, get_or-drop, get_or_past}
use Rattle.std.proofs.lemmas.Bool.{cases_lt}
use Rattle.std.proofs.lemmas.Nat.{from_le_bytes-to_le_bytes_4, from_le_bytes-to_le_bytes_8, le_bytes_4, le_bytes_8}
use Rattle.std.proofs.Math.Seq.{drop-append_seam}
use Rattle.strand_base.specs.LittleEndian.{numbers, u32_of, u64_of, bytes_of_u32, bytes_of_u64, AreBelow}

-- one number more
pub numbers_more : (number : List ℕ → ℕ) (size k : ℕ) (bytes : List ℕ) → numbers number size (k + 1) bytes ≡ numbers number size k bytes ++ number (drop (size * k) bytes) ∷ []
unfolding numbers
numbers_more number size zero bytes = let e : size * 0 ≡ 0 = omega arith in rw e refl
numbers_more number size (suc k) bytes =
    let e : size * suc k ≡ size + size * k = omega arith in
    let f : suc k + 1 ≡ suc (k + 1) = omega arith in
    rw (f, e, ← drop-drop (size * k) size bytes) (ap (λ (s : List ℕ). number bytes ∷ s) (numbers_more number size k (drop size bytes)))

pub length-numbers : (number : List ℕ → ℕ) (size k : ℕ) (bytes : List ℕ) → length (numbers number size k bytes) ≡ k
unfolding numbers
length-numbers number size zero bytes = refl
length-numbers number size (suc k) bytes = ap suc (length-numbers number size k (drop size bytes))

pub no_numbers : (number : List ℕ → ℕ) (size : ℕ) (bytes : List ℕ) → numbers number size 0 bytes ≡ []
unfolding numbers
no_numbers number size bytes = refl

-- each of a list is a byte
abbrev pub AreBytes : List ℕ → Type 0
AreBytes bytes = (k : ℕ) → get_or bytes k 0 < 256

bytes_in_take : (n : ℕ) (bytes : List ℕ) → AreBytes bytes → AreBytes (take n bytes)
bytes_in_take n bytes all k = elim (cases_lt k n) [
  | inl lt ↦ rw (get_or-take n bytes k 0 lt) (all k)
  | inr le ↦ rw (get_or_past (take n bytes) k 0 (omega (arith, length-take n bytes))) (omega arith)
]

pub bytes_in_drop : (n : ℕ) (bytes : List ℕ) → AreBytes bytes → AreBytes (drop n bytes)
bytes_in_drop n bytes all k = rw (get_or-drop n bytes k 0) (all (n + k))

-- How numbers of one size are spelt: each in that many bytes, and read back.
pub record Spells (number : List ℕ → ℕ) (bytes_of : ℕ → List ℕ) (size bound : ℕ) : Type 0 where
  pub width : (n : ℕ) → length (bytes_of n) ≡ size
  pub again : (n : ℕ) (rest : List ℕ) → n < bound → number (bytes_of n ++ rest) ≡ n
  pub spelt : (bytes : List ℕ) → size ≤ length bytes → AreBytes bytes → bytes_of (number bytes) ≡ take size bytes

pub u32_spells : Spells u32_of bytes_of_u32 4 (2 ^ 32)
unfolding u32_of bytes_of_u32
u32_spells = record {
  width = λ n. refl;
  again = λ n rest lt. from_le_bytes-to_le_bytes_4 n lt;
  spelt = λ bytes le all. le_bytes_4 (take 4 bytes) _ (length-take-le 4 bytes le) (bytes_in_take 4 bytes all) refl;
}

pub u64_spells : Spells u64_of bytes_of_u64 8 (2 ^ 64)
unfolding u64_of bytes_of_u64
u64_spells = record {
  width = λ n. refl;
  again = λ n rest lt. from_le_bytes-to_le_bytes_8 n lt;
  spelt = λ bytes le all. le_bytes_8 (take 8 bytes) _ (length-take-le 8 bytes le) (bytes_in_take 8 bytes all) refl;
}

-- past a spelt number
pub past_one : (number : List ℕ → ℕ) (bytes_of : ℕ → List ℕ) (size bound n : ℕ) (rest : List ℕ) → Spells number bytes_of size bound → drop size (bytes_of n ++ rest) ≡ rest
past_one number bytes_of size bound n rest spells = rw (← spells.width n) (drop-append_seam (bytes_of n) rest)

pub length-spelt : (number : List ℕ → ℕ) (bytes_of : ℕ → List ℕ) (size bound : ℕ) (ns : List ℕ) → Spells number bytes_of size bound → length (flat_map bytes_of ns) ≡ size * length ns
length-spelt number bytes_of size bound [] spells = omega arith
length-spelt number bytes_of size bound (n ∷ ns) spells = omega (arith, length-append (bytes_of n) (flat_map bytes_of ns), spells.width n, length-spelt number bytes_of size bound ns spells)

pub past_list : (number : List ℕ → ℕ) (bytes_of : ℕ → List ℕ) (size bound : ℕ) (ns rest : List ℕ) → Spells number bytes_of size bound → drop (size * length ns) (flat_map bytes_of ns ++ rest) ≡ rest
past_list number bytes_of size bound ns rest spells = rw (← length-spelt number bytes_of size bound ns spells) (drop-append_seam (flat_map bytes_of ns) rest)

-- a spelt list is read back
pub list_again : (number : List ℕ → ℕ) (bytes_of : ℕ → List ℕ) (size bound : ℕ) (ns rest : List ℕ) → Spells number bytes_of size bound → AreBelow bound ns → numbers number size (length ns) (flat_map bytes_of ns ++ rest) ≡ ns
unfolding numbers
list_again number bytes_of size bound [] rest spells below = refl
list_again number bytes_of size bound (n ∷ ns) rest spells below =
    rw (append_assoc (bytes_of n) (flat_map bytes_of ns) rest, spells.again n (flat_map bytes_of ns ++ rest) (below 0 (omega arith)), past_one number bytes_of size bound n (flat_map bytes_of ns ++ rest) spells)
    (ap (λ (s : List ℕ). n ∷ s) (list_again number bytes_of size bound ns rest spells (λ k lt. below (suc k) (omega arith))))

-- numbers that were read spell what they were read from
pub list_spelt : (number : List ℕ → ℕ) (bytes_of : ℕ → List ℕ) (size bound count : ℕ) (bytes : List ℕ) → Spells number bytes_of size bound → AreBytes bytes → size * count ≤ length bytes
    → flat_map bytes_of (numbers number size count bytes) ++ drop (size * count) bytes ≡ bytes
unfolding numbers
list_spelt number bytes_of size bound zero bytes spells all le = let e : size * 0 ≡ 0 = omega arith in rw e refl
list_spelt number bytes_of size bound (suc count) bytes spells all le =
    let e : size * suc count ≡ size + size * count = omega arith in
    let rest = flat_map bytes_of (numbers number size count (drop size bytes)) in
    rw (
      append_assoc (bytes_of (number bytes)) rest (drop (size * suc count) bytes),
      spells.spelt bytes (omega arith) all,
      e,
      ← drop-drop (size * count) size bytes,
      list_spelt number bytes_of size bound count (drop size bytes) spells (bytes_in_drop size bytes all) (omega (arith, length-drop size bytes)),
    )
    (take-append-drop size bytes)

-- one number of a spelt list
pub number_at : (number : List ℕ → ℕ) (bytes_of : ℕ → List ℕ) (size bound : ℕ) (ns rest : List ℕ) (k : ℕ) → Spells number bytes_of size bound → AreBelow bound ns → k < length ns → number (drop (size * k) (flat_map bytes_of ns ++ rest)) ≡ get_or ns k 0
number_at number bytes_of size bound [] rest k spells below lt = absurd (omega arith)
number_at number bytes_of size bound (n ∷ ns) rest zero spells below lt =
    let e : size * 0 ≡ 0 = omega arith in
    rw (e, append_assoc (bytes_of n) (flat_map bytes_of ns) rest) (spells.again n (flat_map bytes_of ns ++ rest) (below 0 (omega arith)))
number_at number bytes_of size bound (n ∷ ns) rest (suc k) spells below lt =
    let e : size * suc k ≡ size + size * k = omega arith in
    rw (e, ← drop-drop (size * k) size ((bytes_of n ++ flat_map bytes_of ns) ++ rest), append_assoc (bytes_of n) (flat_map bytes_of ns) rest, past_one number bytes_of size bound n (flat_map bytes_of ns ++ rest) spells)
    (number_at number bytes_of size bound ns rest k spells (λ j h. below (suc j) (omega arith)) (omega arith))
