-- The path of a buffer is text.
use Rattle.std.proofs.Common.{ℕ, zero, suc, ◌≡◌, ◌<◌, ◌&&◌, Bool, true, false, List, [], ◌∷◌, refl, arith}
use Rattle.std.specs.List.{list_all}
use Rattle.std.specs.Str.{IsAscii, IsUtf8}
use Rattle.std.proofs.lemmas.Bool.Decides.{nat_tests}
use Rattle.std.proofs.lemmas.Str.{IsUtf8-from_ascii}
use Rattle.conf_values.specs.Words.{is_path, is_path_byte}

first_holds : (a b : Bool) → (a && b) ≡ true → a ≡ true
first_holds true b both = refl
first_holds false b both = both

second_holds : (a b : Bool) → (a && b) ≡ true → b ≡ true
second_holds true b both = both
second_holds false b both = absurd (cc both)

small_byte : (b : ℕ) → is_path_byte b ≡ true → b < 128
unfolding is_path_byte
small_byte b is = grind (arith, nat_tests)

small_bytes : (word : List ℕ) → list_all is_path_byte word ≡ true → IsAscii word
small_bytes [] all i = omega arith
small_bytes (b ∷ word) all zero = small_byte b (first_holds _ _ all)
small_bytes (b ∷ word) all (suc i) = small_bytes word (second_holds _ _ all) i

pub utf8_path : (word : List ℕ) → is_path word ≡ true → IsUtf8 word
unfolding is_path
utf8_path word is = IsUtf8-from_ascii word (small_bytes word (second_holds _ _ (first_holds _ _ is)))
