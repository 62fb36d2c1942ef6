-- Bytes that are added by one call after another.
use Rattle.std.proofs.Common.{◌≡◌, ℕ, ◌+◌, ◌≤◌, Bool, true, false, cond, List, [], ◌++◌, length, take, Option, Some, None, option_map, Result, Ok, Err, OnOk, OnErr, refl, sym, ap, subst, ◌∙◌, append-nil, append_assoc, ⊎_elim, arith}
use Rattle.std.specs.Prelude.{◌≢◌, ◌-◌, ◌<◌, IsErrOf, IsSome, min, drop, get_or, sum_by}
use Rattle.std.specs.List.{flat_map}
use Rattle.std.specs.Str.{bytes_eq}
use Rattle.disk_files.specs.Disk.{File, Disk, Folder, SameDisk, Changes, with_bytes, with_file, read_of}
use Rattle.disk_files.specs.Moments.{History, now, Elapses, LeavesOnly}
use Rattle.disk_files.specs.Faults.{HasCause}
use Rattle.disk_files.specs.declared.dir.FileNo.{FileNo}
use Rattle.disk_files.specs.declared.dir.DirError.{DirError}
use Rattle.disk_files.specs.declared.dir.DirError.TheVariants as dir
use Rattle.disk_files.proofs.Moments.{elsewhere, follows, goes_on, started, joined, weaker}
use Rattle.disk_files.proofs.Table.{same_name}
use Rattle.std.proofs.lemmas.List.{take_all}
use Rattle.file_pieces.specs.Adding.{Partly, IsLeftOf, Copies, HasPieceCause, Adds, HasAny}
use Rattle.file_pieces.specs.declared.error.PieceError.{PieceError}
use Rattle.file_pieces.specs.declared.error.PieceError.TheVariants.{Fault, Short}
use Rattle.file_pieces.specs.Pieces.{part_of, HasPart}
use Rattle.file_pieces.proofs.Sums.{take_past, take_within, part_joined, sum_next, flat_next, flat_parted, flat_run}
use Rattle.std.proofs.lemmas.List.Sums.{sum_by-append, sum_by-take-le, sum_by_more_le}

-- what a refusal of the folder is answered as
abbrev pub answer_of : Result (Unit {0}) DirError → Result (Unit {0}) PieceError
answer_of (Ok done) = Ok tt
answer_of (Err refused) = Err Fault

pub on_ok : {T E X Y : Type 0} (r : Result T E) → OnOk r X → (X → Y) → OnOk r Y
on_ok (Ok x) is f = f is
on_ok (Err e) is f = tt

on_err : {T E X Y : Type 0} (r : Result T E) → OnErr r X → (X → Y) → OnErr r Y
on_err (Ok x) is f = tt
on_err (Err e) is f = f is

always_ok : {T E X : Type 0} (r : Result T E) → X → OnOk r X
always_ok (Ok x) is = is
always_ok (Err e) is = tt

always_err : {T E X : Type 0} (r : Result T E) → X → OnErr r X
always_err (Ok x) is = tt
always_err (Err e) is = is

-- ---- what is added to a file in two steps

twice : (b c : List ℕ) (o : Option File) → option_map (with_bytes c) (option_map (with_bytes b) o) ≡ option_map (with_bytes (b ++ c)) o
twice b c None = refl
twice b c (Some f) = ap (λ (w : List ℕ). Some (record f { written = w })) (append_assoc f.written b c)

pub grown_twice : (name b c : List ℕ) (old mid new : Disk) → Changes name (with_bytes b) old mid → Changes name (with_bytes c) mid new → Changes name (with_bytes (b ++ c)) old new
grown_twice name b c old mid new first second =
    subst (λ (o : Option File). SameDisk new (with_file old name o)) (twice b c (old name)) (follows old mid new name (option_map (with_bytes b) (old name)) (with_bytes c) first second)

pub partly_behind : (name b c : List ℕ) (old mid new : Disk) → Changes name (with_bytes b) old mid → Partly name c mid new → Partly name (b ++ c) old new
partly_behind name b c old mid new first second = record {
  len = length b + second.len;
  grew = subst (λ (l : List ℕ). Changes name (with_bytes l) old new) (sym (take_past b c second.len)) (grown_twice name b (take second.len c) old mid new first second.grew);
}

pub partly_more : (name b c : List ℕ) (old new : Disk) → Partly name b old new → Partly name (b ++ c) old new
partly_more name b c old new part = record {
  len = min part.len (length b);
  grew = subst (λ (l : List ℕ). Changes name (with_bytes l) old new) (sym (take_within b c part.len)) part.grew;
}

own_file : (disk : Disk) (name q : List ℕ) (b : Bool) → bytes_eq name q ≡ b → cond b (disk name) (disk q) ≡ disk q
own_file disk name q true is = ap disk (same_name name q is)
own_file disk name q false is = refl

none_more : (o : Option File) → option_map (with_bytes []) o ≡ o
none_more None = refl
none_more (Some f) = ap (λ (w : List ℕ). Some (record f { written = w })) (append-nil f.written)

pub grown_none : (name : List ℕ) (old new : Disk) → SameDisk new old → Changes name (with_bytes []) old new
grown_none name old new same q = same q ∙ sym (own_file old name q (bytes_eq name q) refl) ∙ ap (λ (o : Option File). cond (bytes_eq name q) o (old q)) (sym (none_more (old name)))

pub partly_none : (name b : List ℕ) (old new : Disk) → SameDisk new old → Partly name b old new
partly_none name b old new same = record { len = 0; grew = grown_none name old new same }

left_by : (P Q : Disk → Type 0) → ((d : Disk) → P d → Q d) → (folder : Folder) → IsLeftOf P folder → IsLeftOf Q folder
left_by P Q less folder left = record { disk = left.disk; so = less left.disk left.so; stays = left.stays }

pub partly_all : (name bytes : List ℕ) (old new : Disk) → Changes name (with_bytes bytes) old new → Partly name bytes old new
partly_all name bytes old new changes = record { len = length bytes; grew = subst (λ (l : List ℕ). Changes name (with_bytes l) old new) (sym (take_all (length bytes) bytes (omega arith))) changes }

-- ---- calls

eqb_by : (a b : List ℕ) (same : Bool) → bytes_eq a b ≡ same → b ≢ a → same ≡ false
eqb_by a b true is apart = absurd (apart (sym (same_name a b is)))
eqb_by a b false is apart = refl

eqb_apart : (a b : List ℕ) → b ≢ a → bytes_eq a b ≡ false
eqb_apart a b apart = eqb_by a b (bytes_eq a b) refl apart

by_either : {T E X Y Z : Type 0} (r : Result T E) → OnOk r X → OnErr r Y → (X → Z) → (Y → Z) → Z
by_either (Ok x) ok err f g = f ok
by_either (Err e) ok err f g = g err

answered_ok : (X : Type 0) (r : Result (Unit {0}) DirError) → OnOk r X → OnOk (answer_of r) X
answered_ok X (Ok x) is = is
answered_ok X (Err e) is = tt

answered_err : (X : Type 0) (r : Result (Unit {0}) DirError) → OnErr r X → OnErr (answer_of r) X
answered_err X (Ok x) is = tt
answered_err X (Err e) is = is

partly_of : (r : Result (Unit {0}) DirError) (bytes name : List ℕ) (old new : Disk) → OnErr r ((n : ℕ) × Changes name (with_bytes (take n bytes)) old new) → OnErr r (Partly name bytes old new)
partly_of (Ok x) bytes name old new is = tt
partly_of (Err e) bytes name old new is = record { len = is.0; grew = is.1 }

never_short : (r : Result (Unit {0}) DirError) → IsErrOf (answer_of r) Short → ⊥
never_short (Ok x) is = absurd (cc is)
never_short (Err e) is = absurd (cc is)

cause_append : (a b : ℕ) (r : Result (Unit {0}) DirError) → HasCause a b r → OnErr r (r ≡ Err dir.Fault) → HasPieceCause a b (answer_of r)
cause_append a b (Ok x) c only = record { later = c.later; passed = c.passed; failed = λ no. absurd (cc no); short = λ no. absurd (cc no) }
cause_append a b (Err dir.Memory) c only = absurd (cc only)
cause_append a b (Err dir.Fault) c only = record { later = c.later; passed = tt; failed = λ yes. ⊎_elim (λ memory. absurd (cc memory)) (λ rises. rises) c.refused; short = λ no. absurd (cc no) }
cause_append a b (Err dir.NoSuchFile) c only = absurd (cc only)
cause_append a b (Err dir.NameTaken) c only = absurd (cc only)

pub cause_then : {T U : Type 0} (a b c : ℕ) (x : T) (r : Result U PieceError) → HasPieceCause a b (Ok x) → HasPieceCause b c r → HasPieceCause a c r
cause_then {T} a b c x r first second =
    let same : b ≡ a = first.passed in
    subst (λ (n : ℕ). HasPieceCause n c r) same second

module _ {D : Type 0} (is_honest : D → Type 0) (history : D → History) (opened : D → FileNo → Option (List ℕ)) (bytes_left : D → FileNo → ℕ) (fault_count : D → ℕ) (from to : FileNo) where
  copies_on : {T : Type 0} (x : T) (s : ℕ) (W : List ℕ → Type 0) (B : List ℕ → List ℕ) (old mid : D) (source name seen : List ℕ)
      → Adds is_honest history opened bytes_left fault_count from to s W B old mid (Ok x) → is_honest old → Copies (opened old) (now (history old)) from to source name seen
      → Copies (opened mid) (now (history mid)) from to source name seen
  copies_on x s W B old mid source name seen first h c = record {
    source_is = first.stays_open from ∙ c.source_is;
    name_is = first.stays_open to ∙ c.name_is;
    apart = c.apart;
    there = ap read_of (first.elsewhere h name source c.name_is c.apart) ∙ c.there;
  }

  -- bytes, and behind them more
  pub adds_then : {T U : Type 0} (x : T) (r : Result U PieceError) (s t : ℕ) (W : List ℕ → Type 0) (B C : List ℕ → List ℕ) (old mid new : D)
      → Adds is_honest history opened bytes_left fault_count from to s W B old mid (Ok x) → Adds is_honest history opened bytes_left fault_count from to t W C mid new r
      → Adds is_honest history opened bytes_left fault_count from to (s + t) W (λ seen. B seen ++ C seen) old new r
  adds_then x r s t W B C old mid new first second = record {
    honest = λ h. second.honest (first.honest h);
    stays_open = λ other. second.stays_open other ∙ first.stays_open other;
    room = omega (arith, first.room, second.room);
    cause = cause_then (fault_count old) (fault_count mid) (fault_count new) x r first.cause second.cause;
    elsewhere = λ h name other is apart. second.elsewhere (first.honest h) name other (first.stays_open to ∙ is) apart ∙ first.elsewhere h name other is apart;
    grows = λ h name is. (let one = first.grows h name is in let two = second.grows (first.honest h) name (first.stays_open to ∙ is) in
        record { bytes = one.bytes ++ two.bytes; grew = grown_twice name one.bytes two.bytes (now (history old)) (now (history mid)) (now (history new)) one.grew two.grew });
    ok = λ h source name seen c w. on_ok r (second.ok (first.honest h) source name seen (copies_on x s W B old mid source name seen first h c) w)
        (λ more. grown_twice name (B seen) (C seen) (now (history old)) (now (history mid)) (now (history new)) (first.ok h source name seen c w) more);
    err = λ h source name seen c w. on_err r (second.err (first.honest h) source name seen (copies_on x s W B old mid source name seen first h c) w)
        (λ part. partly_behind name (B seen) (C seen) (now (history old)) (now (history mid)) (now (history new)) (first.ok h source name seen c w) part);
    moments = λ h source name seen c w. joined (history old) (history mid) (history new) (IsLeftOf (Partly name (B seen ++ C seen) (now (history old))))
        (weaker (history old) (history mid) (IsLeftOf (Partly name (B seen) (now (history old)))) (IsLeftOf (Partly name (B seen ++ C seen) (now (history old))))
        (left_by (Partly name (B seen) (now (history old))) (Partly name (B seen ++ C seen) (now (history old))) (λ d part. partly_more name (B seen) (C seen) (now (history old)) d part)) (first.moments h source name seen c w))
        (weaker (history mid) (history new) (IsLeftOf (Partly name (C seen) (now (history mid)))) (IsLeftOf (Partly name (B seen ++ C seen) (now (history old))))
        (left_by (Partly name (C seen) (now (history mid))) (Partly name (B seen ++ C seen) (now (history old))) (λ d part. partly_behind name (B seen) (C seen) (now (history old)) (now (history mid)) d (first.ok h source name seen c w) part))
        (second.moments (first.honest h) source name seen (copies_on x s W B old mid source name seen first h c) w));
    whole = λ h source name seen c w short. second.whole (first.honest h) source name seen (copies_on x s W B old mid source name seen first h c) w short;
  }

  -- said in other words
  pub adds_as : {T : Type 0} (r : Result T PieceError) (s t : ℕ) (W V : List ℕ → Type 0) (B C : List ℕ → List ℕ) (old new : D)
      → Adds is_honest history opened bytes_left fault_count from to s W B old new r → s ≤ t
      → (is_honest old → (source name seen : List ℕ) → Copies (opened old) (now (history old)) from to source name seen → V seen → W seen × (B seen ≡ C seen))
      → Adds is_honest history opened bytes_left fault_count from to t V C old new r
  adds_as r s t W V B C old new adds less same = record {
    honest = adds.honest;
    stays_open = adds.stays_open;
    room = omega (arith, adds.room, less);
    cause = adds.cause;
    elsewhere = adds.elsewhere;
    grows = adds.grows;
    ok = λ h source name seen c v. (let both = same h source name seen c v in subst (λ (b : List ℕ). OnOk r (Changes name (with_bytes b) (now (history old)) (now (history new)))) both.1 (adds.ok h source name seen c both.0));
    err = λ h source name seen c v. (let both = same h source name seen c v in subst (λ (b : List ℕ). OnErr r (Partly name b (now (history old)) (now (history new)))) both.1 (adds.err h source name seen c both.0));
    moments = λ h source name seen c v. (let both = same h source name seen c v in subst (λ (b : List ℕ). LeavesOnly (history old) (history new) (IsLeftOf (Partly name b (now (history old))))) both.1 (adds.moments h source name seen c both.0));
    whole = λ h source name seen c v short. adds.whole h source name seen c (same h source name seen c v).0 short;
  }

  -- an error leaves a beginning of more, too
  pub adds_less : {T : Type 0} (e : PieceError) (s t : ℕ) → s ≤ t → (W : List ℕ → Type 0) (B C : List ℕ → List ℕ) (old new : D) → Adds {T = T} is_honest history opened bytes_left fault_count from to s W B old new (Err e)
      → Adds {T = T} is_honest history opened bytes_left fault_count from to t W (λ seen. B seen ++ C seen) old new (Err e)
  adds_less e s t less W B C old new adds = record {
    honest = adds.honest;
    stays_open = adds.stays_open;
    room = omega (arith, adds.room, less);
    cause = adds.cause;
    elsewhere = adds.elsewhere;
    grows = adds.grows;
    ok = λ h source name seen c w. tt;
    err = λ h source name seen c w. partly_more name (B seen) (C seen) (now (history old)) (now (history new)) (adds.err h source name seen c w);
    moments = λ h source name seen c w. weaker (history old) (history new) (IsLeftOf (Partly name (B seen) (now (history old)))) (IsLeftOf (Partly name (B seen ++ C seen) (now (history old))))
        (left_by (Partly name (B seen) (now (history old))) (Partly name (B seen ++ C seen) (now (history old))) (λ d part. partly_more name (B seen) (C seen) (now (history old)) d part)) (adds.moments h source name seen c w);
    whole = adds.whole;
  }

  -- nothing is added
  pub adds_none : {T : Type 0} (r : Result T PieceError) (W : List ℕ → Type 0) (old new : D) → (is_honest old → is_honest new) → ((other : FileNo) → opened new other ≡ opened old other) → bytes_left old to ≤ bytes_left new to
      → HasPieceCause (fault_count old) (fault_count new) r → (is_honest old → SameDisk (now (history new)) (now (history old))) → (is_honest old → Elapses (history old) (history new))
      → (is_honest old → (source name seen : List ℕ) → Copies (opened old) (now (history old)) from to source name seen → W seen → IsErrOf r Short → ⊥)
      → Adds is_honest history opened bytes_left fault_count from to 0 W (λ seen. []) old new r
  adds_none r W old new honest stays_open room cause same time whole = record {
    honest = honest;
    stays_open = stays_open;
    room = omega (arith, room);
    cause = cause;
    elsewhere = λ h name other is apart. same h other;
    grows = λ h name is. record { bytes = []; grew = grown_none name (now (history old)) (now (history new)) (same h) };
    ok = λ h source name seen c w. always_ok r (grown_none name (now (history old)) (now (history new)) (same h));
    err = λ h source name seen c w. always_err r (partly_none name [] (now (history old)) (now (history new)) (same h));
    moments = λ h source name seen c w. goes_on (history old) (history old) (history new) (IsLeftOf (Partly name [] (now (history old))))
        (started (history old) _ (λ folder left. record { disk = now (history old); so = partly_none name [] (now (history old)) (now (history old)) (λ q. refl); stays = left })) (time h)
        (λ folder left. record { disk = now (history new); so = partly_none name [] (now (history old)) (now (history new)) (same h); stays = left });
    whole = whole;
  }

  -- bytes that are given are added
  pub adds_given : (r : Result (Unit {0}) DirError) (bytes : List ℕ) (old new : D) → (is_honest old → is_honest new) → ((other : FileNo) → opened new other ≡ opened old other) → bytes_left old to ≤ bytes_left new to + length bytes
      → HasCause (fault_count old) (fault_count new) r → OnErr r (r ≡ Err dir.Fault) → (is_honest old → Elapses (history old) (history new))
      → (is_honest old → (name : List ℕ) → opened old to ≡ Some name → OnOk r (Changes name (with_bytes bytes) (now (history old)) (now (history new))))
      → (is_honest old → (name : List ℕ) → opened old to ≡ Some name → OnErr r ((n : ℕ) × Changes name (with_bytes (take n bytes)) (now (history old)) (now (history new))))
      → Adds is_honest history opened bytes_left fault_count from to (length bytes) HasAny (λ _. bytes) old new (answer_of r)
  adds_given r bytes old new honest stays_open room cause only time ok err = record {
    honest = honest;
    stays_open = stays_open;
    room = room;
    cause = cause_append (fault_count old) (fault_count new) r cause only;
    elsewhere = λ h name other is apart. by_either r (ok h name is) (err h name is)
        (λ changes. elsewhere (now (history old)) (now (history new)) name other _ changes (eqb_apart name other apart))
        (λ some. elsewhere (now (history old)) (now (history new)) name other _ some.1 (eqb_apart name other apart));
    grows = λ h name is. by_either r (ok h name is) (err h name is) (λ changes. record { bytes = bytes; grew = changes }) (λ some. record { bytes = take some.0 bytes; grew = some.1 });
    ok = λ h source name seen c w. answered_ok _ r (ok h name c.name_is);
    err = λ h source name seen c w. answered_err _ r (partly_of r bytes name (now (history old)) (now (history new)) (err h name c.name_is));
    moments = λ h source name seen c w. goes_on (history old) (history old) (history new) (IsLeftOf (Partly name bytes (now (history old))))
        (started (history old) _ (λ folder left. record { disk = now (history old); so = partly_none name bytes (now (history old)) (now (history old)) (λ q. refl); stays = left })) (time h)
        (λ folder left. record { disk = now (history new); so = by_either r (ok h name c.name_is) (err h name c.name_is) (λ changes. partly_all name bytes (now (history old)) (now (history new)) changes) (λ some. record { len = some.0; grew = some.1 }); stays = left });
    whole = λ h source name seen c w short. never_short r short;
  }

  -- nothing was done yet
  pub adds_start : (W : List ℕ → Type 0) (dir : D) → Adds {T = Unit {0}} is_honest history opened bytes_left fault_count from to 0 W (λ seen. []) dir dir (Ok tt)
  adds_start W dir = record {
    honest = λ h. h;
    stays_open = λ other. refl;
    room = omega arith;
    cause = record { later = omega arith; passed = refl; failed = λ no. absurd (cc no); short = λ no. refl };
    elsewhere = λ h name other is apart. refl;
    grows = λ h name is. record { bytes = []; grew = grown_none name (now (history dir)) (now (history dir)) (λ q. refl) };
    ok = λ h source name seen c w. grown_none name (now (history dir)) (now (history dir)) (λ q. refl);
    err = λ h source name seen c w. tt;
    moments = λ h source name seen c w. started (history dir) _ (λ folder left. record { disk = now (history dir); so = partly_none name [] (now (history dir)) (now (history dir)) (λ q. refl); stays = left });
    whole = λ h source name seen c w short. absurd (cc short);
  }

  pub still_open : {T : Type 0} (r : Result T PieceError) (s : ℕ) (W : List ℕ → Type 0) (B : List ℕ → List ℕ) (old new : D) (other : FileNo) → Adds is_honest history opened bytes_left fault_count from to s W B old new r
      → IsSome (opened old other) → IsSome (opened new other)
  still_open r s W B old new other adds open_before = subst IsSome (sym (adds.stays_open other)) open_before

  module _ (at count : ℕ) where
    -- so many bytes of the source from the place on were added
    abbrev pub Copied : {T : Type 0} → D → D → ℕ → Result T PieceError → Type 0
    Copied first dir done r = Adds is_honest history opened bytes_left fault_count from to done (λ seen. HasPart seen at count) (λ seen. part_of seen at done) first dir r

    pub copied_start : (dir : D) → Copied dir dir 0 (Ok (tt {0}))
    copied_start dir = adds_as (Ok tt) 0 0 (λ seen. HasPart seen at count) (λ seen. HasPart seen at count) (λ seen. []) (λ seen. part_of seen at 0) dir dir (adds_start (λ seen. HasPart seen at count) dir) (omega arith)
        (λ h source name seen c has. (has, refl))

    -- and then more
    pub copied_on : {T U : Type 0} (x : T) (r : Result U PieceError) (done next : ℕ) (first mid new : D) → done + next ≤ count → Copied first mid done (Ok x)
        → Adds is_honest history opened bytes_left fault_count from to next (λ seen. HasPart seen (at + done) next) (λ seen. part_of seen (at + done) next) mid new r → Copied first new (done + next) r
    copied_on x r done next first mid new within so_far more =
        let wider = adds_as r next next (λ seen. HasPart seen (at + done) next) (λ seen. HasPart seen at count) (λ seen. part_of seen (at + done) next) (λ seen. part_of seen (at + done) next) mid new more (omega arith)
        (λ h source name seen c has. ((omega (arith, has.0, within), omega (arith, has.1, within)), refl)) in
        let both = adds_then x r done next (λ seen. HasPart seen at count) (λ seen. part_of seen at done) (λ seen. part_of seen (at + done) next) first mid new so_far wider in
        adds_as r (done + next) (done + next) (λ seen. HasPart seen at count) (λ seen. HasPart seen at count) (λ seen. part_of seen at done ++ part_of seen (at + done) next) (λ seen. part_of seen at (done + next)) first new both (omega arith)
        (λ h source name seen c has. (has, part_joined seen at done next))

    -- an error in between leaves a beginning
    pub copied_less : {T : Type 0} (e : PieceError) (done : ℕ) (first new : D) → done ≤ count → Copied {T = T} first new done (Err e) → Copied {T = T} first new count (Err e)
    copied_less e done first new within so_far =
        let all : done + (count - done) ≡ count = omega (arith, within) in
        let less = adds_less e done count within (λ seen. HasPart seen at count) (λ seen. part_of seen at done) (λ seen. part_of seen (at + done) (count - done)) first new so_far in
        adds_as (Err e) count count (λ seen. HasPart seen at count) (λ seen. HasPart seen at count) (λ seen. part_of seen at done ++ part_of seen (at + done) (count - done)) (λ seen. part_of seen at count) first new less (omega arith)
        (λ h source name seen c has. (has, part_joined seen at done (count - done) ∙ ap (λ n. part_of seen at n) all))

  -- what is told, in the words of a piece
  pub told_as : {T : Type 0} (r : Result T PieceError) (V : List ℕ → Type 0) (told bytes : List ℕ) (old new : D) → told ≡ bytes → Adds is_honest history opened bytes_left fault_count from to (length told) HasAny (λ _. told) old new r
      → Adds is_honest history opened bytes_left fault_count from to (length bytes) V (λ _. bytes) old new r
  told_as r V told bytes old new same adds = adds_as r (length told) (length bytes) HasAny V (λ _. told) (λ _. bytes) old new adds (omega (arith, ap length same)) (λ h source name seen c has. (tt, same))

  -- Things are added in their order, each of which has so much room and such bytes. What is asked
  -- of the source for all of them is W.
  module _ {X : Type 0} (items : List X) (room : X → ℕ) (bytes : List ℕ → X → List ℕ) (W : List ℕ → Type 0) where
    -- the first so many were added
    abbrev pub Added : {T : Type 0} → D → D → ℕ → Result T PieceError → Type 0
    Added first dir i r = Adds is_honest history opened bytes_left fault_count from to (sum_by room (take i items)) W (λ seen. flat_map (bytes seen) (take i items)) first dir r

    pub added_start : (dir : D) → Added dir dir 0 (Ok (tt {0}))
    added_start dir = adds_start W dir

    -- and then more, which are those up to a later one
    added_by : {T U : Type 0} (x : T) (r : Result U PieceError) (i j more : ℕ) (first mid new : D) (V : List ℕ → Type 0) (B : List ℕ → List ℕ) → sum_by room (take i items) + more ≡ sum_by room (take j items) → ((seen : List ℕ) → W seen → V seen)
        → ((seen : List ℕ) → flat_map (bytes seen) (take i items) ++ B seen ≡ flat_map (bytes seen) (take j items)) → Added first mid i (Ok x) → Adds is_honest history opened bytes_left fault_count from to more V B mid new r → Added first new j r
    added_by x r i j more first mid new V B many each same so_far next =
        let wider = adds_as r more more V W B B mid new next (omega arith) (λ h source name seen c all. (each seen all, refl)) in
        let both = adds_then x r (sum_by room (take i items)) more W (λ seen. flat_map (bytes seen) (take i items)) B first mid new so_far wider in
        adds_as r (sum_by room (take i items) + more) (sum_by room (take j items)) W W (λ seen. flat_map (bytes seen) (take i items) ++ B seen) (λ seen. flat_map (bytes seen) (take j items)) first new both (omega (arith, many))
        (λ h source name seen c all. (all, same seen))

    -- and then the next
    pub added_on : {T U : Type 0} (x : T) (r : Result U PieceError) (i : ℕ) (item : X) (first mid new : D) (V : List ℕ → Type 0) → i < length items → item ≡ get_or items i item → ((seen : List ℕ) → W seen → V seen) → Added first mid i (Ok x)
        → Adds is_honest history opened bytes_left fault_count from to (room item) V (λ seen. bytes seen item) mid new r → Added first new (i + 1) r
    added_on x r i item first mid new V within is each so_far more =
        added_by x r i (i + 1) (room item) first mid new V (λ seen. bytes seen item) (sym (sum_next room items i item within is)) each (λ seen. flat_next (bytes seen) items i item within is) so_far more

    -- and then some more
    pub added_run : {T U : Type 0} (x : T) (r : Result U PieceError) (i j : ℕ) (run : List X) (first mid new : D) (V : List ℕ → Type 0) → take j items ≡ take i items ++ run → ((seen : List ℕ) → W seen → V seen) → Added first mid i (Ok x)
        → Adds is_honest history opened bytes_left fault_count from to (sum_by room run) V (λ seen. flat_map (bytes seen) run) mid new r → Added first new j r
    added_run x r i j run first mid new V is each so_far more =
        added_by x r i j (sum_by room run) first mid new V (λ seen. flat_map (bytes seen) run) (sym (ap (sum_by room) is ∙ sum_by-append room (take i items) run)) each (λ seen. flat_run (bytes seen) (take i items) run (take j items) is) so_far more

    -- an error in between leaves a beginning
    pub added_less : {T : Type 0} (e : PieceError) (i : ℕ) (first new : D) → Added {T = T} first new i (Err e)
        → Adds {T = T} is_honest history opened bytes_left fault_count from to (sum_by room items) W (λ seen. flat_map (bytes seen) items) first new (Err e)
    added_less e i first new so_far =
        let less = adds_less e (sum_by room (take i items)) (sum_by room items) (sum_by-take-le room items i) W (λ seen. flat_map (bytes seen) (take i items)) (λ seen. flat_map (bytes seen) (drop i items)) first new so_far in
        adds_as (Err e) (sum_by room items) (sum_by room items) W W (λ seen. flat_map (bytes seen) (take i items) ++ flat_map (bytes seen) (drop i items)) (λ seen. flat_map (bytes seen) items) first new
        less (omega arith) (λ h source name seen c all. (all, flat_parted (bytes seen) items i))

    -- all were added
    pub added_all : {T : Type 0} (r : Result T PieceError) (i : ℕ) (first new : D) → length items ≤ i → Added first new i r
        → Adds is_honest history opened bytes_left fault_count from to (sum_by room items) W (λ seen. flat_map (bytes seen) items) first new r
    added_all {T} r i first new past so_far = subst (λ (xs : List X). Adds {T = T} is_honest history opened bytes_left fault_count from to (sum_by room xs) W (λ seen. flat_map (bytes seen) xs) first new r) (take_all i items past) so_far

    -- there is room for the next
    pub room_next : {T : Type 0} (r : Result T PieceError) (i : ℕ) (item : X) (first mid : D) → i < length items → item ≡ get_or items i item → sum_by room items ≤ bytes_left first to → Added first mid i r → room item ≤ bytes_left mid to
    room_next r i item first mid within is fits so_far =
        omega (arith, fits, so_far.room, ap room is, sum_by_more_le room items i item within)

    -- there is room for some more
    pub room_run : {T : Type 0} (r : Result T PieceError) (i j : ℕ) (run : List X) (first mid : D) → take j items ≡ take i items ++ run → sum_by room items ≤ bytes_left first to → Added first mid i r → sum_by room run ≤ bytes_left mid to
    room_run r i j run first mid is fits so_far =
        omega (arith, fits, so_far.room, ap (sum_by room) is, sum_by-append room (take i items) run, sum_by-take-le room items j)

    -- each file is open as it was
    pub open_yet : {T : Type 0} (r : Result T PieceError) (i : ℕ) (first mid : D) (other : FileNo) → Added first mid i r → IsSome (opened first other) → IsSome (opened mid other)
    open_yet r i first mid other so_far = still_open r (sum_by room (take i items)) W (λ seen. flat_map (bytes seen) (take i items)) first mid other so_far
