-- A replay goes from one place to the next.
use Rattle.std.proofs.Common.{◌≡◌, ℕ, ◌-◌, ◌<◌, ◌≤◌, Bool, true, false, List, [], ◌∷◌, ◌++◌, length, refl, sym, ap, subst, ◌∙◌, append_assoc, arith, inl, inr, ◌⊎◌}
use Rattle.std.proofs.lemmas.List.{length-append, flat_map_more}
use Rattle.buffer_state.specs.State.{State, empty}
use Rattle.buffer_state.specs.Steps.{settled}
use Rattle.chunk_journal.specs.Records.{Record, record_bytes, IsRecord}
use Rattle.chunk_journal.specs.Journal.{IsTorn, IsBad, BeginsWith, journal_bytes}
use Rattle.chunk_journal.specs.Reading.{Begins}
use Rattle.chunk_journal.specs.Meaning.{after, IsReplayed, EndsUnsealed, IsDamaged}
use Rattle.chunk_journal.specs.Replaying.{Place, sealed_after, Stands, SoFar, Advances, Refuses}
use Rattle.msgpack_bytes.proofs.Walk.{all_with}
use Rattle.chunk_journal.proofs.Standing.{stands_more, misplaced}

-- the bytes of one record more
pub journal_push : (items : List Record) (item : Record) → journal_bytes (items ++ item ∷ []) ≡ journal_bytes items ++ record_bytes item
journal_push items item = sym (flat_map_more record_bytes [] items item)

-- one record more at the front
pub begins_more : (bytes rest behind : List ℕ) (records : List Record) (item : Record) → BeginsWith records rest bytes → Begins rest item behind → BeginsWith (records ++ item ∷ []) behind bytes
begins_more bytes rest behind records item b s = record {
  each = all_with IsRecord records item b.each s.is;
  whole = b.whole ∙ ap (λ (z : List ℕ). journal_bytes records ++ z) s.whole ∙ sym (append_assoc (journal_bytes records) (record_bytes item) behind)
      ∙ ap (λ (z : List ℕ). z ++ behind) (sym (journal_push records item));
}

-- nothing was read yet
pub nothing_yet : (bytes : List ℕ) (place : Place) → place ≡ record { is_sealed = false; state = empty } → SoFar bytes place bytes
nothing_yet bytes place e = subst (λ (p : Place). SoFar bytes p bytes) (sym e) (record {
  records = [];
  begins = record { each = tt; whole = refl };
  stands = (tt, refl);
})

-- one record further
pub comes_on : (bytes rest behind : List ℕ) (old new : Place) → SoFar bytes old rest → Advances rest old new behind → SoFar bytes new behind
comes_on bytes rest behind old new s a = record {
  records = s.records ++ a.item ∷ [];
  begins = begins_more bytes rest behind s.records a.item s.begins a.begins;
  stands = there new.is_sealed new.state (sym a.goes.sealed) (sym a.goes.state);
}
  where
    there : (b : Bool) (t : State) → sealed_after old.is_sealed a.item ≡ b → after old.state a.item ≡ t → Stands b (s.records ++ a.item ∷ []) t
    there b t e f =
        subst (λ (z : Bool). Stands z (s.records ++ a.item ∷ []) t) e
        (subst (λ (z : State). Stands (sealed_after old.is_sealed a.item) (s.records ++ a.item ∷ []) z) f
        (stands_more old.is_sealed s.records old.state a.item s.stands a.goes.follows))

-- what is left gets shorter
pub gets_shorter : (rest behind : List ℕ) (old new : Place) → Advances rest old new behind → length behind < length rest
gets_shorter rest behind old new a = omega (arith, ap length a.begins.whole, length-append (record_bytes a.item) behind)

-- a place where something bad stands
pub is_damaged : (bytes rest : List ℕ) (place : Place) → SoFar bytes place rest → IsBad rest ⊎ Refuses rest place → IsDamaged bytes
is_damaged bytes rest place s (inl bad) = record { records = s.records; rest = rest; begins = s.begins; wrong = inr bad }
is_damaged bytes rest place s (inr r) = record {
  records = s.records ++ r.item ∷ [];
  rest = r.behind;
  begins = begins_more bytes rest r.behind s.records r.item s.begins r.begins;
  wrong = inl (misplaced place.is_sealed s.records place.state r.item s.stands r.refused);
}

-- the end before a Seal
pub ends_unsealed : (bytes rest : List ℕ) (place : Place) → SoFar bytes place rest → IsTorn rest → place.is_sealed ≡ false → EndsUnsealed bytes
ends_unsealed bytes rest place s torn e = record {
  records = s.records;
  rest = rest;
  journal = record { each = s.begins.each; whole = s.begins.whole; torn = torn };
  unsealed = (subst (λ (z : Bool). Stands z s.records place.state) e s.stands).0;
}

-- the end behind a Seal
pub is_replayed : (bytes rest : List ℕ) (place : Place) (state : State) → SoFar bytes place rest → IsTorn rest → place.is_sealed ≡ true → state ≡ settled place.state
    → IsReplayed bytes state (length bytes - length rest)
is_replayed bytes rest place state s torn e m = record {
  records = s.records;
  rest = rest;
  journal = record { each = s.begins.each; whole = s.begins.whole; torn = torn };
  generation = record { last = place.state; leads = subst (λ (z : Bool). Stands z s.records place.state) e s.stands; means = m };
  ends = omega (arith, ap length s.begins.whole, length-append (journal_bytes s.records) rest);
}

-- the rest is no longer than all of it
pub rest_within : (bytes rest : List ℕ) (place : Place) → SoFar bytes place rest → length rest ≤ length bytes
rest_within bytes rest place s = omega (arith, ap length s.begins.whole, length-append (journal_bytes s.records) rest)
