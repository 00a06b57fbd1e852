-- Bytes of a frame, and the numbers that they stand for (document 01, "Frames": little-endian; offsets count from 0).
use Rattle.std.specs.Prelude.{Bool, true, false, cond, ◌&&◌, List, [], ◌∷◌, ℕ, ◌+◌, ◌-◌, ◌*◌, ◌/◌, ◌%◌, ltb, eqb, ℤ, pos, negsuc, get_or, take, drop}
use Prim.Native.Char.{code}
use Prim.Native.String.{String, [] as none, ◌∷◌ as ◌then◌}
use Rattle.weak_orders.specs.Window.{all}

-- the bytes of a text
abbrev pub ascii : String → List ℕ
ascii none = []
ascii (c then s) = code c ∷ ascii s

-- the byte at i, and 0 past the end
abbrev pub byte : List ℕ → ℕ → ℕ
byte f i = get_or f i 0

-- the k bytes from i on
unfoldable pub part : List ℕ → ℕ → ℕ → List ℕ
part f i k = take k (drop i f)

-- every byte is zero
unfoldable pub zeros : List ℕ → Bool
unfolding all
zeros = all (eqb 0)

-- the two lists hold the same bytes
unfoldable pub same_bytes : List ℕ → List ℕ → Bool
same_bytes [] [] = true
same_bytes [] (y ∷ v) = false
same_bytes (x ∷ u) [] = false
same_bytes (x ∷ u) (y ∷ v) = eqb x y && same_bytes u v

-- the unsigned numbers of 16 and of 64 bits that stand at i
abbrev pub unsigned16 : List ℕ → ℕ → ℕ
unsigned16 f i = byte f i + 256 * byte f (i + 1)

abbrev pub unsigned64 : List ℕ → ℕ → ℕ
unsigned64 f i =
    byte f i + 256 * (byte f (i + 1) + 256 * (byte f (i + 2) + 256 * (byte f (i + 3)
    + 256 * (byte f (i + 4) + 256 * (byte f (i + 5) + 256 * (byte f (i + 6) + 256 * byte f (i + 7)))))))

-- the signed number of 16 bits, in two's complement, that the unsigned x is
abbrev pub signed16 : ℕ → ℤ
signed16 x = cond (ltb x 32768) (pos x) (negsuc (65535 - x))

-- the unsigned number of 16 bits that a signed one is in two's complement, and that of 32 bits
abbrev pub bits16 : ℤ → ℕ
bits16 (pos n) = n
bits16 (negsuc n) = 65535 - n

abbrev pub bits32 : ℤ → ℕ
bits32 (pos n) = n
bits32 (negsuc n) = 4294967295 - n

-- the two bytes of a number of 16 bits, the four of one of 32, and the eight of one of 64
abbrev pub bytes16 : ℕ → List ℕ
bytes16 x = (x % 256) ∷ (x / 256) ∷ []

abbrev pub bytes32 : ℕ → List ℕ
bytes32 x = (x % 256) ∷ (x / 256 % 256) ∷ (x / 65536 % 256) ∷ (x / 16777216) ∷ []

abbrev pub bytes64 : ℕ → List ℕ
bytes64 x =
    (x % 256) ∷ (x / 256 % 256) ∷ (x / 65536 % 256) ∷ (x / 16777216 % 256) ∷ (x / 4294967296 % 256)
    ∷ (x / 1099511627776 % 256) ∷ (x / 281474976710656 % 256) ∷ (x / 72057594037927936) ∷ []

-- what a frame is made of: numbers below 256
unfoldable pub is_bytes : List ℕ → Bool
unfolding all
is_bytes = all (λ b. ltb b 256)
