-- Scanning on in unread bytes.
use Rattle.std.proofs.Common.{ℕ, ◌≡◌, ◌+◌, ◌-◌, ◌≤◌, List, [], ◌++◌, length, take, drop, nat_lt, true, false, refl, ap, sym, subst, ◌∙◌, arith}
use Rattle.std.proofs.lemmas.List.{take-append-drop, take-append-le, length-take-le, take_all, length-append}
use Rattle.msgpack_bytes.specs.declared.answers.Scan.TheVariants as scan
use Rattle.msgpack_bytes.specs.declared.answers.PieceScan.TheVariants as taken
use Rattle.msgpack_bytes.specs.declared.answers.MsgFault.{MsgFault}
use Rattle.msgpack_bytes.specs.Item.{IsItemWithin, IsOpen}
use Rattle.msgpack_bytes.specs.Answers.{IsScanned}
use Rattle.msgpack_bytes.specs.Pieces.{Scanning, IsAfter, IsTaken}
use Rattle.msgpack_bytes.proofs.Slices.{less, not_less}
use Rattle.msgpack_bytes.proofs.Stack.{run_empty}
use Rattle.msgpack_bytes.proofs.Opened.{missing_open}
use Rattle.event_modes.specs.declared.ahead.Ahead.{Ahead}
use Rattle.event_modes.specs.Ahead.{IsGiven}
use Rattle.event_modes.proofs.Scans.{not_open}

abbrev pub ahead_of : Scanning → ℕ → Ahead
ahead_of scanner given = record { scanner = scanner; given = given }

pub none_open : IsOpen []
none_open = missing_open [] (record { n = 1; missing = run_empty 64; least = omega arith })

pub given_none : (scanner : Scanning) (unread : List ℕ) → IsAfter scanner [] → IsGiven (ahead_of scanner 0) unread
given_none scanner unread a = record { within = omega arith; given = a; still = none_open }

-- where it was given none
pub given_any : (ahead : Ahead) (unread : List ℕ) → IsGiven ahead unread → ahead.given ≡ 0 → (other : List ℕ) → IsGiven ahead other
given_any ahead unread g none other =
    let before : take ahead.given unread ≡ [] = ap (λ (n : ℕ). take n unread) none in
    let after : [] ≡ take ahead.given other = sym (ap (λ (n : ℕ). take n other) none) in
    record { within = omega arith; given = subst (IsAfter ahead.scanner) (before ∙ after) g.given; still = subst IsOpen (before ∙ after) g.still }

-- more bytes come
pub given_more : (ahead : Ahead) (unread piece : List ℕ) → IsGiven ahead unread → IsGiven ahead (unread ++ piece)
given_more ahead unread piece g =
    let within = g.within in
    let same = sym (take-append-le ahead.given unread piece g.within) in
    record {
      within = omega (arith, length-append unread piece);
      given = subst (IsAfter ahead.scanner) same g.given;
      still = subst IsOpen same g.still;
    }

module _ (ahead : Ahead) (unread rest : List ℕ) (g : IsGiven ahead unread) (is : rest ≡ drop ahead.given unread) where
  abbrev seen : List ℕ
  seen = take ahead.given unread

  all : seen ++ rest ≡ unread
  all = ap (λ (xs : List ℕ). seen ++ xs) is ∙ take-append-drop ahead.given unread

  seen_size : length seen ≡ ahead.given
  seen_size = length-take-le ahead.given unread g.within

  -- no item ends in what was seen
  later : (end : ℕ) → IsScanned unread 0 (scan.End end) → ahead.given ≤ end
  later end s = elim (nat_lt end ahead.given) as (λ b. nat_lt end ahead.given ≡ b → ahead.given ≤ end) [
    | true ↦ λ e. (let short = less end ahead.given e in
        let size = seen_size in
        let within = g.within in
        let n : end - 0 ≡ end = omega arith in
        let same : take (end - 0) unread ≡ take end seen = ap (λ (k : ℕ). take k unread) n ∙ ap (take end) (sym all) ∙ take-append-le end seen rest (omega arith) in
        absurd (not_open seen (record { front = take end seen; back = drop end seen; is = subst IsItemWithin same s.2; whole = sym (take-append-drop end seen) }) g.still))
    | false ↦ λ e. not_less end ahead.given e
  ] refl

  pub scanned_end : (n : ℕ) → IsTaken seen rest (taken.End n) → IsScanned unread 0 (scan.End (ahead.given + n))
  scanned_end n (scan.End end, s, e) =
      let there : IsScanned unread 0 (scan.End end) = subst (λ (xs : List ℕ). IsScanned xs 0 (scan.End end)) all s in
      let enough = later end there in
      let size = seen_size in
      let same : n ≡ end - length seen = cc in
      let back : end ≡ ahead.given + n = omega arith in
      subst (λ (k : ℕ). IsScanned unread 0 (scan.End k)) back there
  scanned_end n (scan.Need, s, e) = absurd (cc)
  scanned_end n (scan.Bad fault, s, e) = absurd (cc)

  pub scanned_need : IsTaken seen rest taken.Need → IsScanned unread 0 scan.Need
  scanned_need (scan.End end, s, e) = absurd (cc)
  scanned_need (scan.Need, s, e) = subst IsOpen all s
  scanned_need (scan.Bad fault, s, e) = absurd (cc)

  pub scanned_bad : (fault : MsgFault) → IsTaken seen rest (taken.Bad fault) → IsScanned unread 0 (scan.Bad fault)
  scanned_bad fault (scan.End end, s, e) = absurd (cc)
  scanned_bad fault (scan.Need, s, e) = absurd (cc)
  scanned_bad fault (scan.Bad other, s, e) =
      let same : other ≡ fault = cc in
      subst (λ (f : MsgFault). IsScanned unread 0 (scan.Bad f)) same (subst (λ (xs : List ℕ). IsScanned xs 0 (scan.Bad other)) all s)

  -- the scanner was given all
  pub given_all : (scanner : Scanning) → IsAfter scanner (seen ++ rest) → IsTaken seen rest taken.Need → IsGiven (ahead_of scanner (length unread)) unread
  given_all scanner a t =
      let same : unread ≡ take (length unread) unread = sym (take_all (length unread) unread (omega arith)) in
      record {
        within = omega arith;
        given = subst (IsAfter scanner) (all ∙ same) a;
        still = subst IsOpen same (scanned_need t);
      }
