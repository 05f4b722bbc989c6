-- What is left of bytes. Assumes nothing.
use Rattle.std.proofs.Common.{◌≡◌, ℕ, ◌+◌, ◌-◌, List, length, get_or, drop, length-drop, get_or-drop}

pub left_long : (n : ℕ) (bytes : List ℕ) → length (drop n bytes) ≡ length bytes - n
left_long n bytes = length-drop n bytes

pub left_read : (n k z : ℕ) (bytes : List ℕ) → get_or (drop n bytes) k z ≡ get_or bytes (n + k) z
left_read n k z bytes = get_or-drop n bytes k z
