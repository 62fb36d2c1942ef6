-- What holds as a scan goes over a piece, and from piece to piece.
use Rattle.std.proofs.Common.{ℕ, zero, suc, ◌≡◌, ◌+◌, ◌-◌, ◌<◌, ◌≤◌, true, false, nat_lt, nat_le, List, [], ◌++◌, length, take, drop, slice_range, slice_index, slice_set, replicate, refl, ap, sym, subst, ◌∙◌, arith, append_assoc, length-append, length-drop, Option, Some, None, ◌↔◌}
use Rattle.std.proofs.lemmas.List.{drop-drop, drop_at, take-append-le, take-append-drop, drop-append-le}
use Rattle.msgpack_bytes.specs.declared.answers.Scan.TheVariants as scan
use Rattle.msgpack_bytes.specs.declared.answers.PieceScan.{PieceScan}
use Rattle.msgpack_bytes.specs.declared.answers.PieceScan.TheVariants as taken
use Rattle.msgpack_bytes.specs.declared.answers.MsgFault.{MsgFault}
use Rattle.msgpack_bytes.specs.declared.answers.MsgFault.TheVariants as fault
use Rattle.msgpack_bytes.specs.declared.format.ScanStep.{ScanStep}
use Rattle.msgpack_bytes.specs.declared.format.ScanStep.TheVariants as step
use Rattle.msgpack_bytes.specs.declared.scanner.Place.{Place}
use Rattle.msgpack_bytes.specs.declared.scanner.Scanner.TheInside.{Inside}
use Rattle.msgpack_bytes.specs.declared.scanner.Went.{Went}
use Rattle.msgpack_bytes.specs.declared.scanner.Went.TheVariants.{Ended, Bad, Cut}
use Rattle.msgpack_bytes.specs.Item.{longest, IsItemWithin, IsOpen}
use Rattle.msgpack_bytes.specs.Fault.{IsFaulty}
use Rattle.msgpack_bytes.specs.Answers.{IsScanned}
use Rattle.msgpack_bytes.specs.Run.{front_of}
use Rattle.msgpack_bytes.specs.Steps.{BeginsSame, IsNext, step_of}
use Rattle.msgpack_bytes.specs.Pieces.{Reads, counted_from, IsTaken, Scanning, State, LacksBytes, IsBegun, IsAfter, IsAfterBy}
use Rattle.msgpack_bytes.specs.Going.{Stands, Goes}
use Rattle.msgpack_bytes.proofs.Slices.{less, not_less}
use Rattle.msgpack_bytes.proofs.Opened.{missing_some, open_missing}
use Rattle.msgpack_bytes.proofs.Scanned.{one_answer}
use Rattle.msgpack_bytes.proofs.StepFacts.{IsWhole, IsOpening, whole_front, opening_front, run_lacks, told}
use Rattle.msgpack_bytes.proofs.States.{state_start, state_end, state_pop, state_whole, state_opens, state_wrong, state_deep, state_lacks, state_lacks_long, state_whole_long, state_opens_long}

-- ---- lists that grow

state_grows : (seen piece missing : List ℕ) (done levels room : ℕ) → State seen 0 done missing levels room → State (seen ++ piece) 0 done missing levels room
state_grows seen piece missing done levels room s =
    let within = s.within in
    let all = length-append seen piece in
    let same : slice_range (seen ++ piece) 0 done ≡ slice_range seen 0 done = take-append-le (done - 0) seen piece (omega arith) in
    record { here = λ depth e. subst (λ (f : List ℕ). Reads f missing depth levels) (sym same) (s.here depth e); size = s.size; few = s.few; above = s.above; within = omega arith; spent = s.spent }

-- the bytes of the piece from `at` on
drop_on : (seen piece : List ℕ) (done at : ℕ) → done ≡ length seen + at → drop done (seen ++ piece) ≡ drop at piece
drop_on seen piece done at e =
    ap (λ (n : ℕ). drop n (seen ++ piece)) e ∙ sym (drop-drop at (length seen) (seen ++ piece)) ∙ ap (drop at) (drop_at seen piece (length seen) refl)

-- what is a part of an item without more bytes is whole only behind its end
whole_later : (part more : List ℕ) (size : ℕ) → LacksBytes part → IsWhole size (part ++ more) → length part < size
whole_later part more size p w =
    elim (nat_lt (length part) size) as (λ b. nat_lt (length part) size ≡ b → length part < size) [
      | true ↦ λ e. less (length part) size e
      | false ↦ λ e. (let short = not_less (length part) size e in
          let all = whole_front (part ++ more) (drop size part) size w in
          let same : take size (part ++ more) ++ drop size part ≡ part = ap (λ (xs : List ℕ). xs ++ drop size part) (take-append-le size part more short) ∙ take-append-drop size part in
          absurd (let f = sym p.1 ∙ sym (ap front_of same) ∙ all in cc))
    ] refl

opening_later : (part more : List ℕ) (size items : ℕ) → LacksBytes part → IsOpening size items (part ++ more) → length part < size
opening_later part more size items p w =
    elim (nat_lt (length part) size) as (λ b. nat_lt (length part) size ≡ b → length part < size) [
      | true ↦ λ e. less (length part) size e
      | false ↦ λ e. (let short = not_less (length part) size e in
          let all = opening_front (part ++ more) (drop size part) size items w in
          let same : take size (part ++ more) ++ drop size part ≡ part = ap (λ (xs : List ℕ). xs ++ drop size part) (take-append-le size part more short) ∙ take-append-drop size part in
          absurd (let f = sym p.1 ∙ sym (ap front_of same) ∙ all in cc))
    ] refl

-- ---- one turn

abbrev pub place_of : ℕ → ℕ → ℕ → Place
place_of levels room came = record { levels = levels; room = room; came = came }

module _ (seen piece front missing : List ℕ) (levels room came at : ℕ) (s : Stands seen piece front missing (place_of levels room came) at) where
  abbrev all : List ℕ
  all = seen ++ piece

  abbrev rest : List ℕ
  rest = drop s.done all

  first : 0 < came → at ≡ 0
  first h = (s.cut h).first

  joined : length all ≡ length seen + length piece
  joined = length-append seen piece

  behind : length rest ≡ length all - s.done
  behind = length-drop s.done all

  pub next : IsNext front came piece at rest
  next = record {
    fresh = λ none. drop_on seen piece s.done at (let lies = s.lies in omega arith);
    size = λ some. (let at_first = first some in let lies = s.lies in let b = joined in let d = behind in let within = s.state.within in omega arith);
    begins = λ some. (s.cut some).begins;
  }

  -- the item that was cut, and what the piece adds to it
  pub parted : 0 < came → rest ≡ drop s.done seen ++ piece
  parted some = let at_first = first some in let lies = s.lies in drop-append-le s.done seen piece (omega arith)

  part_size : 0 < came → length (drop s.done seen) ≡ came
  part_size some = let at_first = first some in let lies = s.lies in let d = length-drop s.done seen in omega arith

  pub whole_more : (size : ℕ) → IsWhole size rest → came < size
  whole_more size w = elim (nat_lt 0 came) as (λ b. nat_lt 0 came ≡ b → came < size) [
    | true ↦ λ e. (let some = less 0 came e in
        let there : IsWhole size (drop s.done seen ++ piece) = subst (IsWhole size) (parted some) w in
        let later = whole_later (drop s.done seen) piece size (s.cut some).part there in
        let n = part_size some in omega arith)
    | false ↦ λ e. (let none = not_less 0 came e in let positive = w.some in omega arith)
  ] refl

  pub opening_more : (size items : ℕ) → IsOpening size items rest → came < size
  opening_more size items w = elim (nat_lt 0 came) as (λ b. nat_lt 0 came ≡ b → came < size) [
    | true ↦ λ e. (let some = less 0 came e in
        let there : IsOpening size items (drop s.done seen ++ piece) = subst (IsOpening size items) (parted some) w in
        let later = opening_later (drop s.done seen) piece size items (s.cut some).part there in
        let n = part_size some in omega arith)
    | false ↦ λ e. (let none = not_less 0 came e in let positive = w.some in omega arith)
  ] refl

  ended_at : at ≡ s.done - length seen
  ended_at = let lies = s.lies in elim (nat_lt 0 came) as (λ b. nat_lt 0 came ≡ b → at ≡ s.done - length seen) [
    | true ↦ λ e. (let at_first = first (less 0 came e) in omega arith)
    | false ↦ λ e. (let none = not_less 0 came e in omega arith)
  ] refl

  pub stands_end : levels ≡ 0 → Goes seen piece front missing (Ended at)
  stands_end none =
      (s.done, state_end s.state none, ended_at)

  pub stands_pop : 0 < levels → slice_index missing (levels - 1) ≡ 0 → Stands seen piece front missing (place_of (levels - 1) room came) at
  stands_pop some none = record { done = s.done; state = state_pop s.state some none; lies = s.lies; within = s.within; short = s.short; cut = s.cut }

  module _ (some : 0 < levels) (top : 0 < slice_index missing (levels - 1)) where
    -- what `next_step` says
    abbrev Told : ScanStep → Type 0
    Told turn = (all : List ℕ) → IsNext front came piece at all → turn ≡ step_of (nat_le levels 64) all

    abbrev left : List ℕ
    left = slice_set missing (levels - 1) (slice_index missing (levels - 1) - 1)

    pub stands_wrong : Told step.Wrong → Goes seen piece front missing (Bad fault.Reserved)
    stands_wrong e = state_wrong s.state some top (e rest next)

    pub stands_deep : Told step.Deep → Goes seen piece front missing (Bad fault.TooDeep)
    stands_deep e = state_deep s.state some top (e rest next)

    pub stands_cut : (size : ℕ) → Told (step.Lacks size) → size - 1 ≤ room → Goes seen piece front missing (Cut (place_of levels room came) at)
    stands_cut size e fits = let l = told (nat_le levels 64) rest (step.Lacks size) (e rest next) in (s, (l.n, l.front), state_lacks s.state some top size (e rest next) fits)

    pub stands_lacks_long : (size : ℕ) → Told (step.Lacks size) → room < size - 1 → Goes seen piece front missing (Bad fault.TooLong)
    stands_lacks_long size e past = state_lacks_long s.state some top size (e rest next) past

    pub stands_whole_long : (size : ℕ) → Told (step.Whole size) → room < size - 1 → Goes seen piece front missing (Bad fault.TooLong)
    stands_whole_long size e past = state_whole_long s.state some top size (e rest next) past

    pub stands_opens_long : (items size : ℕ) → Told (step.Opens items size) → room < size - 1 + items → Goes seen piece front missing (Bad fault.TooLong)
    stands_opens_long items size e past = state_opens_long s.state some top items size (e rest next) past

    pub lacks_size : (size : ℕ) → Told (step.Lacks size) → 0 < size
    lacks_size size e =
        let l = told (nat_le levels 64) rest (step.Lacks size) (e rest next) in
        let n = missing_some 1 l.n rest (run_lacks 0 l.n rest l.front) in
        let size_is = l.all in
        omega arith

    pub whole_size : (size : ℕ) → Told (step.Whole size) → came < size
    whole_size size e = whole_more size (told (nat_le levels 64) rest (step.Whole size) (e rest next))

    pub opens_size : (items size : ℕ) → Told (step.Opens items size) → came < size
    opens_size items size e = opening_more size items (told (nat_le levels 64) rest (step.Opens items size) (e rest next)).0

    pub stands_whole : (size : ℕ) → Told (step.Whole size) → size - 1 ≤ room → Stands seen piece front left (place_of levels (room - (size - 1)) 0) (at + (size - came))
    stands_whole size e fits =
        let later = whole_size size e in
        let lies = s.lies in
        let b = joined in
        let on = state_whole s.state some top size (e rest next) fits in
        let within = on.within in
        record { done = s.done + size; state = on; lies = omega arith; within = omega arith; short = omega arith; cut = λ none. absurd (omega arith) }

    pub stands_opens : (items size : ℕ) → Told (step.Opens items size) → size - 1 + items ≤ room
        → Stands seen piece front (slice_set left levels items) (place_of (levels + 1) (room - (size - 1 + items)) 0) (at + (size - came))
    stands_opens items size e fits =
        let later = opens_size items size e in
        let lies = s.lies in
        let b = joined in
        let on = state_opens s.state some top items size (e rest next) fits in
        let within = on.within in
        record { done = s.done + size; state = on; lies = omega arith; within = omega arith; short = omega arith; cut = λ none. absurd (omega arith) }

-- ---- from piece to piece

-- where a scan stood before the piece it still stands, and `front` has the first bytes of what was
-- cut and follows
pub begun_stands : (s : Scanning) (seen piece front : List ℕ) → IsBegun s seen → ((part : List ℕ) → length part ≡ s.place.came → BeginsSame 5 s.front part → BeginsSame 5 front (part ++ piece))
    → Stands seen piece front s.missing s.place 0
begun_stands s seen piece front b fill =
    let lies = b.lies in
    let d = length-drop b.done seen in
    let filled = fill (drop b.done seen) (omega arith) b.begins in
    record {
      done = b.done;
      state = state_grows seen piece s.missing b.done s.place.levels s.place.room b.state;
      lies = omega arith;
      within = omega arith;
      short = b.short;
      cut = λ some. record { first = refl; begins = rw (drop-append-le b.done seen piece (omega arith)) filled; part = b.part some };
    }

-- what a scanner keeps, of its fields
abbrev pub scanning : Inside → Scanning
scanning s = record { missing = s.missing; place = s.place; front = s.front; over = s.over }

-- nothing was seen yet
pub begun_none : (missing front : List ℕ) → length missing ≡ 65 → slice_index missing 0 ≡ 1 → BeginsSame 5 front [] → IsAfter (record { missing = missing; place = place_of 1 16777215 0; front = front; over = None }) []
unfolding IsAfter
begun_none missing front size one b =
    record { done = 0; state = state_start [] 0 missing (omega arith) size one; lies = refl; short = omega arith; begins = b; part = λ none. absurd (omega arith) }

pub zeros_begin : BeginsSame 5 (replicate 5 0) []
zeros_begin zero h = refl
zeros_begin (suc zero) h = refl
zeros_begin (suc (suc zero)) h = refl
zeros_begin (suc (suc (suc zero))) h = refl
zeros_begin (suc (suc (suc (suc zero)))) h = refl
zeros_begin (suc (suc (suc (suc (suc k))))) h = absurd (omega arith)

-- ---- what a piece is answered

-- the only answer that is right
one_taken : (seen piece : List ℕ) (a b : PieceScan) → IsTaken seen piece a → IsTaken seen piece b → a ≡ b
one_taken seen piece a b p q = p.2 ∙ ap (counted_from (length seen)) (one_answer (seen ++ piece) 0 p.0 q.0 p.1 q.1) ∙ sym q.2

-- for whatever bytes were seen before, the answer is right, and the scanner has then seen the piece
-- too
abbrev pub Tells : Scanning → Scanning → List ℕ → PieceScan → Type 0
Tells old new piece answer = (seen : List ℕ) → IsAfter old seen → IsTaken seen piece answer × IsAfter new (seen ++ piece)

need_taken : (seen piece : List ℕ) → IsTaken seen piece taken.Need → IsOpen (seen ++ piece)
need_taken seen piece (scan.End end, s, e) = absurd (cc)
need_taken seen piece (scan.Need, s, e) = s
need_taken seen piece (scan.Bad fault, s, e) = absurd (cc)

module _ (view old new : Scanning) (piece : List ℕ) (answer : PieceScan) (same : view ≡ old) (t : Tells view new piece answer) where
  abbrev told_of : (seen : List ℕ) → IsAfter old seen → IsTaken seen piece answer × IsAfter new (seen ++ piece)
  told_of seen a = t seen (subst (λ (s : Scanning). IsAfter s seen) (sym same) a)

  right_of : (seen : List ℕ) → IsAfter old seen → IsTaken seen piece answer
  right_of seen a = (told_of seen a).0

  only_of : (seen : List ℕ) → IsAfter old seen → (other : PieceScan) → IsTaken seen piece other → other ≡ answer
  only_of seen a other o = one_taken seen piece other answer o (right_of seen a)

  after_of : (seen : List ℕ) → IsAfter old seen → IsAfter new (seen ++ piece)
  after_of seen a = (told_of seen a).1

  need_of : (seen : List ℕ) → IsAfter old seen → (answer ≡ taken.Need) ↔ IsOpen (seen ++ piece)
  need_of seen a = (
    λ e. need_taken seen piece (subst (IsTaken seen piece) e (right_of seen a)),
    λ o. sym (only_of seen a taken.Need (scan.Need, o, refl)),
  )

  -- all four, as a record
  abbrev pub Clauses : Type 0
  Clauses = record {
    right : (seen : List ℕ) → IsAfter old seen → IsTaken seen piece answer;
    only : (seen : List ℕ) → IsAfter old seen → (other : PieceScan) → IsTaken seen piece other → other ≡ answer;
    after : (seen : List ℕ) → IsAfter old seen → IsAfter new (seen ++ piece);
    need : (seen : List ℕ) → IsAfter old seen → (answer ≡ taken.Need) ↔ IsOpen (seen ++ piece);
  }

  pub clauses : Clauses
  clauses = record { right = right_of; only = only_of; after = after_of; need = need_of }

  -- so the scanner has seen some bytes
  pub seen_of : (seen : List ℕ) × IsAfter view seen → (more : List ℕ) × IsAfter new more
  seen_of some = (some.0 ++ piece, (t some.0 some.1).1)

-- ---- once it is over

scanned_more : (bytes more : List ℕ) (end : ℕ) → IsScanned bytes 0 (scan.End end) → IsScanned (bytes ++ more) 0 (scan.End end)
scanned_more bytes more end s =
    let within = s.1 in
    let all = length-append bytes more in
    (s.0, omega arith, subst IsItemWithin (sym (take-append-le (end - 0) bytes more (omega arith))) s.2)

-- a fault stays, whatever follows
pub faulty_more : (fault : MsgFault) (bytes more : List ℕ) → IsFaulty fault bytes → IsFaulty fault (bytes ++ more)
faulty_more fault bytes more f = record {
  shortest = f.shortest;
  rest = f.rest ++ more;
  whole = ap (λ (xs : List ℕ). xs ++ more) f.whole ∙ append_assoc f.shortest f.rest more;
  closed = f.closed;
  before = f.before;
  ends = f.ends;
}

over_tells : (s : Scanning) (piece : List ℕ) (answer : PieceScan) (seen : List ℕ) → IsAfterBy (Some answer) s seen → IsTaken seen piece answer × IsAfterBy (Some answer) s (seen ++ piece)
over_tells s piece (taken.End n) seen a =
    let within = a.1.1.1 in
    let more = scanned_more seen piece a.1.0 a.1.1 in
    let none = a.0 in
    ((scan.End a.1.0, more, ap taken.End (omega arith)), (a.0, (a.1.0, more)))
over_tells s piece taken.Need seen a = absurd a
over_tells s piece (taken.Bad fault) seen a = let more = faulty_more fault seen piece a in ((scan.Bad fault, more, refl), more)

tells_over : (s : Scanning) (piece : List ℕ) (answer : PieceScan) → s.over ≡ Some answer → Tells s s piece answer
unfolding IsAfter
tells_over s piece answer e = λ seen a. (
    let t = over_tells s piece answer seen (subst (λ (o : Option PieceScan). IsAfterBy o s seen) e a) in
    (t.0, subst (λ (o : Option PieceScan). IsAfterBy o s (seen ++ piece)) (sym e) t.1)
    )

pub tells_kept : (view old : Scanning) (piece : List ℕ) (answer : PieceScan) → view ≡ old → view.over ≡ Some answer → Tells view old piece answer
tells_kept view old piece answer same e = λ seen a. (let t = tells_over view piece answer e seen a in (t.0, subst (λ (s : Scanning). IsAfter s (seen ++ piece)) same t.1))

-- ---- and before

-- where nothing is answered yet, and `fill` was called
module _ (s : Scanning) (piece front : List ℕ) (none : s.over ≡ None) (fill : (part : List ℕ) → length part ≡ s.place.came → BeginsSame 5 s.front part → BeginsSame 5 front (part ++ piece)) where
  stands_at : (seen : List ℕ) → IsAfter s seen → Stands seen piece front s.missing s.place 0
  unfolding IsAfter
  stands_at seen a = begun_stands s seen piece front (subst (λ (o : Option PieceScan). IsAfterBy o s seen) none a) fill

  pub stands_some : (seen : List ℕ) × IsAfter s seen → (seen : List ℕ) × Stands seen piece front s.missing s.place 0
  stands_some some = (some.0, stands_at some.0 some.1)

  -- as `go_on` says
  abbrev pub GoesTo : List ℕ → Went → Type 0
  GoesTo missing went = (seen : List ℕ) → Stands seen piece front s.missing s.place 0 → Goes seen piece front missing went

  pub tells_ended : (new : Scanning) (n : ℕ) → new.over ≡ Some (taken.End 0) → GoesTo new.missing (Ended n) → Tells s new piece (taken.End n)
  unfolding IsAfter
  tells_ended new n over goes = λ seen a. (
      let g = goes seen (stands_at seen a) in
      ((scan.End g.0, g.1, ap taken.End g.2), subst (λ (o : Option PieceScan). IsAfterBy o new (seen ++ piece)) (sym over) (refl, (g.0, g.1)))
      )

  pub tells_bad : (new : Scanning) (fault : MsgFault) → new.over ≡ Some (taken.Bad fault) → GoesTo new.missing (Bad fault) → Tells s new piece (taken.Bad fault)
  unfolding IsAfter
  tells_bad new fault over goes = λ seen a. (
      let g = goes seen (stands_at seen a) in
      ((scan.Bad fault, g, refl), subst (λ (o : Option PieceScan). IsAfterBy o new (seen ++ piece)) (sym over) g)
      )

  -- a scan that is cut stays within the piece, and within the limit
  pub cut_within : (missing : List ℕ) (place : Place) (at : ℕ) → (seen : List ℕ) × IsAfter s seen → GoesTo missing (Cut place at) → (at ≤ length piece) × (place.came ≤ longest)
  cut_within missing place at some goes =
      let g = goes some.0 (stands_at some.0 some.1) in
      (g.0.within, g.0.short)

  module _ (new : Scanning) (rest : List ℕ) (place : Place) (at : ℕ) (goes : GoesTo new.missing (Cut place at)) (rest_is : rest ≡ drop at piece)
      (place_is : new.place ≡ place_of place.levels place.room (place.came + length rest))
      (kept : (all : List ℕ) → (place.came ≡ 0 → all ≡ rest) → (0 < place.came → BeginsSame 5 front all) → BeginsSame 5 new.front all) where
    cut_begun : (seen : List ℕ) → Goes seen piece front new.missing (Cut place at) → IsBegun new (seen ++ piece)
    cut_begun seen g =
        let stands = g.0 in
        let lies = stands.lies in
        let within = stands.within in
        let all = length-append seen piece in
        let size = ap length rest_is ∙ length-drop at piece in
        let o = open_missing (seen ++ piece) g.2 in
        let least = o.least in
        let came_is : new.place.came ≡ place.came + length rest = ap (λ (p : Place). p.came) place_is in
        record {
          done = stands.done;
          state = subst (λ (p : Place). State (seen ++ piece) 0 stands.done new.missing p.levels p.room) (sym place_is) stands.state;
          lies = omega arith;
          short = omega arith;
          begins = kept (drop stands.done (seen ++ piece)) (λ none. drop_on seen piece stands.done at (omega arith) ∙ sym rest_is) (λ some. (stands.cut some).begins);
          part = λ some. g.1;
        }

    pub tells_cut : new.over ≡ None → Tells s new piece taken.Need
    unfolding IsAfter
    tells_cut still = λ seen a. (
        let g = goes seen (stands_at seen a) in
        ((scan.Need, g.2, refl), subst (λ (o : Option PieceScan). IsAfterBy o new (seen ++ piece)) (sym still) (cut_begun seen g))
        )
