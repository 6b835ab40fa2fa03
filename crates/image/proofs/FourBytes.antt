-- Four bytes that are written as one number.
use mathlib.Core.Path.{◌≡◌}
use mathlib.Core.List.{◌++◌}
use Prim.Native.Nat.{ℕ, ◌+◌, ◌*◌, ◌/◌, ◌%◌}
use native.Mathlib.Omega.{arith}
use Rattle.int64.specs.Little.{bytes_of}

-- the lowest byte of a number, and the number of those above it
low : (a n : ℕ) → (a % 256 + 256 * n) % 256 ≡ a % 256
low a n = omega arith

above : (a n : ℕ) → (a % 256 + 256 * n) / 256 ≡ n
above a n = omega arith

pub four-joined : (a b c d : ℕ)
    → bytes_of 4 (a % 256 + 256 * (b % 256 + 256 * (c % 256 + 256 * (d % 256)))) ≡ bytes_of 1 a ++ (bytes_of 1 b ++ (bytes_of 1 c ++ bytes_of 1 d))
unfolding bytes_of
four-joined a b c d =
    let last : d % 256 % 256 ≡ d % 256 = omega arith in
    let three = c % 256 + 256 * (d % 256) in
    let two = b % 256 + 256 * three in
    rw (low a two, above a two, low b three, above b three, low c (d % 256), above c (d % 256), last)
