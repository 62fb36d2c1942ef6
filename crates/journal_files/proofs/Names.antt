-- The names of generations are apart.
use Rattle.std.proofs.Common.{◌≡◌, ◌<◌, ◌^◌, ℕ, Bool, true, false, List, ◌++◌, refl}
use Rattle.std.specs.Prelude.{codes}
use Rattle.std.specs.Str.{bytes_eq}
use Rattle.std.proofs.lemmas.List.{append_cancel_left, append_cancel_right}
use Rattle.std.proofs.lemmas.Slice.Eq.{bytes_eq-Decides}
use Rattle.numbered_files.specs.Names.{ten_digits}
use Rattle.numbered_files.proofs.Counted.{same_digits}
use Rattle.journal_files.specs.Folders.{journal_name}

pub same_number : (path : List ℕ) (n m : ℕ) → n < 2 ^ 32 → m < 2 ^ 32 → journal_name path n ≡ journal_name path m → n ≡ m
same_number path n m hn hm e =
    let behind = append_cancel_left path (codes "." ++ ten_digits n ++ codes ".journal") (codes "." ++ ten_digits m ++ codes ".journal") e in
    let digits : ten_digits n ++ codes ".journal" ≡ ten_digits m ++ codes ".journal" = append_cancel_left (codes ".") (ten_digits n ++ codes ".journal") (ten_digits m ++ codes ".journal") behind in
    same_digits n m hn hm (append_cancel_right (ten_digits n) (ten_digits m) (codes ".journal") digits)

not_same : (a b : List ℕ) (c : Bool) → bytes_eq a b ≡ c → (a ≡ b → ⊥) → c ≡ false
not_same a b true e differ = absurd (differ ((bytes_eq-Decides a b).0 e))
not_same a b false e differ = refl

-- names that differ
pub apart : (a b : List ℕ) → (a ≡ b → ⊥) → bytes_eq a b ≡ false
apart a b differ = not_same a b (bytes_eq a b) refl differ

-- the names of two generations
pub numbers_apart : (path : List ℕ) (n m : ℕ) → n < 2 ^ 32 → m < 2 ^ 32 → (n ≡ m → ⊥) → bytes_eq (journal_name path n) (journal_name path m) ≡ false
numbers_apart path n m hn hm differ = apart (journal_name path n) (journal_name path m) (λ e. differ (same_number path n m hn hm e))
