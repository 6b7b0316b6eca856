-- Numbers of four or eight bytes each, the low byte first, one after the other.
use Rattle.std.specs.Prelude.{ℕ, zero, suc, ◌<◌, List, [], ◌∷◌, length, take, drop, slice_index}
use Rattle.std.specs.Int.{w32, w64, from_le_bytes, to_le_bytes}
use Rattle.std.specs.List.{flat_map}

-- the number that the first four, or eight, bytes write
unfoldable pub u32_of : List ℕ → ℕ
u32_of bytes = from_le_bytes w32 (take 4 bytes)

unfoldable pub u64_of : List ℕ → ℕ
u64_of bytes = from_le_bytes w64 (take 8 bytes)

-- so many numbers, one after the other
unfoldable pub numbers : (List ℕ → ℕ) → ℕ → ℕ → List ℕ → List ℕ
numbers number size zero bytes = []
numbers number size (suc count) bytes = number bytes ∷ numbers number size count (drop size bytes)

abbrev pub u32s : ℕ → List ℕ → List ℕ
u32s count bytes = numbers u32_of 4 count bytes

abbrev pub u64s : ℕ → List ℕ → List ℕ
u64s count bytes = numbers u64_of 8 count bytes

-- the bytes of a number
unfoldable pub bytes_of_u32 : ℕ → List ℕ
bytes_of_u32 n = to_le_bytes w32 n

unfoldable pub bytes_of_u64 : ℕ → List ℕ
bytes_of_u64 n = to_le_bytes w64 n

abbrev pub bytes_of_u32s : List ℕ → List ℕ
bytes_of_u32s ns = flat_map bytes_of_u32 ns

abbrev pub bytes_of_u64s : List ℕ → List ℕ
bytes_of_u64s ns = flat_map bytes_of_u64 ns

-- each number is below a bound
abbrev pub AreBelow : ℕ → List ℕ → Type 0
AreBelow bound numbers = (k : ℕ) → k < length numbers → slice_index numbers k < bound
