-- The servers in turn: those from a place on, then those before it.
use Rattle.std.proofs.Common.{ℕ, zero, suc, arith, ◌≡◌, ◌<◌, List, [], ◌∷◌, ◌++◌, take, drop, min, length, find, refl, sym, ap, ◌∙◌, subst, Option, Some, None, Bool, option_map, Result, Ok, Err}
use Rattle.std.specs.Prelude.{IfOk, IfSome}
use Rattle.std.specs.Option.{option_or}
use Rattle.std.specs.List.{position_from}
use Rattle.std.proofs.lemmas.List.{take_min, drop_min, drop_all}
use Rattle.std.proofs.lemmas.List.Folds.{find-append}
use Rattle.std.proofs.lemmas.Bool.{cases_lt}
use Rattle.std.proofs.Math.Logic.{⊎_elim}
use Rattle.relay_sockets.specs.Endpoints.{Endpoint, Origin, WentTo}
use Rattle.tcp_courier.specs.Carrying.{IsToOne, IsToFirst}
use Rattle.tcp_courier.specs.Turns.{in_turn, place_in_turn}

-- a connection to one of the servers from a place on went to one of the servers
pub to_one_behind : (n : ℕ) (servers : List Endpoint) (origin : Origin) → IsToOne (drop n servers) origin → IsToOne servers origin
to_one_behind zero servers origin h = h
to_one_behind (suc n) [] origin h = h
to_one_behind (suc n) (x ∷ xs) origin h = let more = to_one_behind n xs origin h in (suc more.0, omega (arith, more.1), more.2)

-- so did one to one of those before it
pub to_one_before : (n : ℕ) (servers : List Endpoint) (origin : Origin) → IsToOne (take n servers) origin → IsToOne servers origin
to_one_before zero servers origin h = absurd (omega (arith, h.1))
to_one_before (suc n) [] origin h = h
to_one_before (suc n) (x ∷ xs) origin (zero, within, is) = (zero, omega arith, is)
to_one_before (suc n) (x ∷ xs) origin (suc k, within, is) = let more = to_one_before n xs origin (k, omega (arith, within), is) in (suc more.0, omega (arith, more.1), more.2)

-- the first in turn that takes a connection is the first from the place on, or else the first
-- before it
found_in_turn : (takes : Endpoint → Bool) (turn : ℕ) (servers : List Endpoint)
    → find takes (in_turn turn servers) ≡ option_or (find takes (drop (min turn (length servers)) servers)) (find takes (take (min turn (length servers)) servers))
found_in_turn takes turn servers =
    find-append takes (drop turn servers) (take turn servers)
    ∙ ap (λ (l : List Endpoint). option_or (find takes l) (find takes (take turn servers))) (sym (drop_min turn servers))
    ∙ ap (λ (l : List Endpoint). option_or (find takes (drop (min turn (length servers)) servers)) (find takes l)) (sym (take_min turn servers))

some_first : {X Y : Type 0} (f : X → Y) (a b : Option X) (y : Y) → Some y ≡ option_map f a → Some y ≡ option_map f (option_or a b)
some_first f (Some x) b y h = h
some_first f None b y h = absurd cc

none_first : {X Y : Type 0} (f : X → Y) (a b : Option X) (o : Option Y) → None ≡ option_map f a → o ≡ option_map f b → o ≡ option_map f (option_or a b)
none_first f None b o h k = k
none_first f (Some x) b o h k = absurd cc

or_some : {X : Type 0} (a b : Option X) (x : X) → Some x ≡ a → Some x ≡ option_or a b
or_some (Some y) b x h = h
or_some None b x h = absurd cc

or_none : {X : Type 0} (a b o : Option X) → None ≡ a → o ≡ b → o ≡ option_or a b
or_none None b o h k = k
or_none (Some y) b o h k = absurd cc

module _ (takes : Endpoint → Bool) (turn : ℕ) (servers : List Endpoint) where
  pub first_behind : (origin : Origin) → IsToFirst takes (drop (min turn (length servers)) servers) (Some origin) → IsToFirst takes (in_turn turn servers) (Some origin)
  first_behind origin h =
      some_first WentTo (find takes (drop (min turn (length servers)) servers)) (find takes (take (min turn (length servers)) servers)) origin h
      ∙ ap (option_map WentTo) (sym (found_in_turn takes turn servers))

  pub first_before : (origin : Option Origin) → IsToFirst takes (drop (min turn (length servers)) servers) None → IsToFirst takes (take (min turn (length servers)) servers) origin
      → IsToFirst takes (in_turn turn servers) origin
  first_before origin h k =
      none_first WentTo (find takes (drop (min turn (length servers)) servers)) (find takes (take (min turn (length servers)) servers)) origin h k
      ∙ ap (option_map WentTo) (sym (found_in_turn takes turn servers))

  -- past the end of the list there is no place
  from_end : (n : ℕ) → length servers < turn → position_from takes n (drop turn servers) ≡ None
  from_end n past = ap (position_from takes n) (drop_all turn servers (omega arith))

  place_behind : position_from takes (min turn (length servers)) (drop (min turn (length servers)) servers) ≡ position_from takes turn (drop turn servers)
  place_behind = ⊎_elim
      (λ past. ap (position_from takes (min turn (length servers))) (drop_min turn servers) ∙ from_end (min turn (length servers)) past ∙ sym (from_end turn past))
      (λ within. let e : min turn (length servers) ≡ turn = omega arith in ap (λ n. position_from takes n (drop n servers)) e)
      (cases_lt (length servers) turn)

  same_or : (a b c d : Option ℕ) → a ≡ c → b ≡ d → option_or a b ≡ option_or c d
  same_or a b c d e f = ap (λ o. option_or o b) e ∙ ap (option_or c) f

  placed : option_or (position_from takes (min turn (length servers)) (drop (min turn (length servers)) servers)) (position_from takes 0 (take (min turn (length servers)) servers))
      ≡ place_in_turn takes servers turn
  placed = same_or _ _ _ _ place_behind (ap (position_from takes 0) (take_min turn servers))

  pub placed_behind : (place : ℕ) → Some place ≡ position_from takes (min turn (length servers)) (drop (min turn (length servers)) servers) → Some place ≡ place_in_turn takes servers turn
  placed_behind place h = or_some _ _ place h ∙ placed

  pub placed_before : (place : Option ℕ) → None ≡ position_from takes (min turn (length servers)) (drop (min turn (length servers)) servers)
      → place ≡ position_from takes 0 (take (min turn (length servers)) servers) → place ≡ place_in_turn takes servers turn
  placed_before place h k = or_none _ _ place h k ∙ placed

-- what holds of what a call gave, if more does
pub ok_too : {X E : Type 0} (P Q : X → Type 0) (r : Result X E) → ((x : X) → P x → Q x) → IfOk r P → IfOk r Q
ok_too P Q (Ok x) f h = f x h
ok_too P Q (Err e) f h = tt

-- what holds of what is there, if more does
pub some_too : {X : Type 0} (P Q : X → Type 0) (o : Option X) → ((x : X) → P x → Q x) → IfSome o P → IfSome o Q
some_too P Q (Some x) f h = f x h
some_too P Q None f h = tt

-- the same dialer and the same servers
pub first_same : {D : Type 0} (takes : D → Endpoint → Bool) (d e : D) (xs ys : List Endpoint) (origin : Option Origin) → d ≡ e → xs ≡ ys → IsToFirst (takes d) xs origin → IsToFirst (takes e) ys origin
first_same takes d e xs ys origin p q h = subst (λ x. IsToFirst (takes x) ys origin) p (subst (λ l. IsToFirst (takes d) l origin) q h)
