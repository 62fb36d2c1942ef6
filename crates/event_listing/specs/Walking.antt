-- How a writer goes over items, for the proofs of this crate.
use Rattle.std.specs.Prelude.{ℕ, ◌≡◌, ◌*◌, List, [], ◌∷◌, ◌++◌, codes}
use Rattle.std.specs.List.{AllByRecursion}
use Rattle.json.specs.Token.{Token, begin_object, end_object, begin_array, end_array, string}
use Rattle.json.specs.Written.{Written}
use Rattle.msgpack_bytes.specs.declared.answers.Head.{Head}
use Rattle.msgpack_bytes.specs.declared.answers.Head.TheVariants as head
use Rattle.msgpack_bytes.specs.Containers.{Pair}
use Rattle.event_modes.specs.Rows.{items_of}
use Rattle.msgpack_bytes.specs.Kinds.{IsInteger}
use Rattle.event_modes.specs.Entry.{IsEventTime}
use Rattle.event_listing.specs.declared.time.Time.{Time}
use Rattle.event_listing.specs.declared.time.Time.TheVariants.{Seconds, Event}
use Rattle.event_listing.specs.Json.{marked, AreJson, AreMembers, ArePairs, IsNamed}

-- these tokens are written behind the others
pub record Appends (old new : Written) (tokens : List Token) : Type 0 where
  pub before : new.before ≡ old.before
  pub tokens_are : new.tokens ≡ old.tokens ++ tokens

-- such tokens are written behind the others
pub record Adds (Is : List Token → Type 0) (old new : Written) : Type 0 where
  pub tokens : List Token
  pub is : Is tokens
  pub appends : Appends old new tokens

-- keys and values by turns, as pairs
abbrev pub pairs_from : List (List ℕ) → List Pair
pairs_from [] = []
pairs_from (key ∷ []) = []
pairs_from (key ∷ value ∷ items) = record { key = key; value = value } ∷ pairs_from items

-- the pairs that the bytes begin with, so many of them
abbrev pub pairs_of : ℕ → List ℕ → List Pair
pairs_of count bytes = pairs_from (items_of (2 * count) bytes)

-- heads of scalars
abbrev pub IsOfScalar : Head → Type 0
IsOfScalar head.Nil = Unit {0}
IsOfScalar (head.Bool value) = Unit {0}
IsOfScalar (head.Int value) = Unit {0}
IsOfScalar head.Float = Unit {0}
IsOfScalar (head.Str start end) = Unit {0}
IsOfScalar (head.Bin start end) = Unit {0}
IsOfScalar (head.Ext kind start end) = Unit {0}
IsOfScalar (head.Array count next) = ⊥
IsOfScalar (head.Map count next) = ⊥

-- an array of these items
pub record IsArrayOf (Is : List ℕ → List Token → Type 0) (items : List (List ℕ))
    (tokens : List Token) : Type 0 where
  pub values : List Token
  pub each : AreJson Is items values
  pub whole : tokens ≡ begin_array ∷ (values ++ end_array ∷ [])

-- an object with these pairs as its members
pub record IsObjectOf (Is : List ℕ → List Token → Type 0) (pairs : List Pair)
    (tokens : List Token) : Type 0 where
  pub members : List Token
  pub each : AreMembers Is pairs members
  pub whole : tokens ≡ begin_object ∷ (members ++ end_object ∷ [])

-- an object with an array of these pairs
pub record IsPairsOf (Is : List ℕ → List Token → Type 0) (pairs : List Pair)
    (tokens : List Token) : Type 0 where
  pub values : List Token
  pub each : ArePairs Is pairs values
  pub whole : tokens ≡ marked (codes "$map") (begin_array ∷ (values ++ end_array ∷ []))

-- an array of a key and its value
pub record IsPairOf (IsKey IsValue : List ℕ → List Token → Type 0) (key value : List ℕ)
    (tokens : List Token) : Type 0 where
  pub first : List Token
  pub second : List Token
  pub first_is : IsKey key first
  pub second_is : IsValue value second
  pub whole : tokens ≡ begin_array ∷ (first ++ (second ++ end_array ∷ []))

-- the one where each key can be a name, and else the other
pub data IsMapOf (Is : List ℕ → List Token → Type 0) (pairs : List Pair)
    (tokens : List Token) : Type 0 where
  Object : IsObjectOf Is pairs tokens → IsMapOf Is pairs tokens
  Pairs : (AllByRecursion IsNamed pairs → ⊥) → IsPairsOf Is pairs tokens → IsMapOf Is pairs tokens

-- a string with such a text
pub record IsStringOf (Is : List ℕ → Type 0) (tokens : List Token) : Type 0 where
  pub text : List ℕ
  pub is : Is text
  pub whole : tokens ≡ string text ∷ []

-- what a time is: an integer, or an EventTime of this content
abbrev pub IsTimeIn : List ℕ → Time → Type 0
IsTimeIn time (Seconds seconds) = IsInteger time seconds
IsTimeIn time (Event content) = (is : IsEventTime time) × (is.content ≡ content.now)
