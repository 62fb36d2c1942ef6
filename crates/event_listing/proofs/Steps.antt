-- Tokens that are written one behind another.
use Rattle.std.proofs.Common.{ℕ, ℤ, ◌≡◌, ◌%◌, ◌<◌, ◌≤◌, List, [], ◌∷◌, ◌++◌, Result, Ok, Err, Some, OnOk, refl, ap, sym, subst, ◌∙◌, append_assoc}
use Rattle.std.specs.Prelude.{from_bits}
use Rattle.std.specs.Float.Ieee.{Format}
use Rattle.fast_float.specs.Parse.{parse_float}
use Rattle.ryu.specs.Plain.{IsPlainNumber}
use Rattle.json.specs.Token.{Token, number}
use Rattle.json.specs.Written.{Written}
use Rattle.event_listing.specs.Json.{IsFloatJson, Finite}
use Rattle.event_listing.specs.Walking.{Adds, Appends}

-- such tokens are others too
pub adds_as : {E : Type 0} (r : Result (Unit {0}) E) (P Q : List Token → Type 0) (old new : Written) → ((ts : List Token) → P ts → Q ts) → OnOk r (Adds P old new) → OnOk r (Adds Q old new)
adds_as (Ok u) P Q old new f a = record { tokens = a.tokens; is = f a.tokens a.is; appends = a.appends }
adds_as (Err e) P Q old new f a = tt

-- these tokens are such
pub adds_these : {E : Type 0} (r : Result (Unit {0}) E) (Q : List Token → Type 0) (ts : List Token) (old new : Written) → Q ts → OnOk r (Appends old new ts) → OnOk r (Adds Q old new)
adds_these (Ok u) Q ts old new q a = record { tokens = ts; is = q; appends = a }
adds_these (Err e) Q ts old new q a = tt

-- one token is such
pub adds_one : {E : Type 0} (r : Result (Unit {0}) E) (Q : List Token → Type 0) (t : Token) (old new : Written) → Q (t ∷ []) → OnOk r (new.tokens ≡ old.tokens ++ t ∷ []) → new.before ≡ old.before → OnOk r (Adds Q old new)
adds_one (Ok u) Q t old new q a b = record { tokens = t ∷ []; is = q; appends = record { before = b; tokens_are = a } }
adds_one (Err e) Q t old new q a b = tt

pub adds_float : {E : Type 0} (r : Result (Unit {0}) E) (format : Format) (sign most bits : ℕ) (old new : Written) → bits % sign ≤ most
    → OnOk r ((s : List ℕ) × (new.tokens ≡ old.tokens ++ number s ∷ []) × IsPlainNumber s × (parse_float format s ≡ Some (from_bits format bits)))
    → new.before ≡ old.before → OnOk r (Adds (IsFloatJson format sign most bits) old new)
adds_float (Ok u) format sign most bits old new m p b = record { tokens = number p.0 ∷ []; is = Finite p.0 m p.2 p.3 refl; appends = record { before = b; tokens_are = p.1 } }
adds_float (Err e) format sign most bits old new m p b = tt
