-- A scan of one item that comes in pieces.
use Rattle.std.specs.Prelude.{ℕ, zero, suc, ◌≡◌, ◌+◌, ◌-◌, ◌<◌, ◌≤◌, List, ◌++◌, length, drop, slice_index, slice_range, Option, Some, None, Result, Ok}
use Rattle.msgpack_bytes.specs.declared.answers.Scan.{Scan}
use Rattle.msgpack_bytes.specs.declared.answers.Scan.TheVariants as scan
use Rattle.msgpack_bytes.specs.declared.answers.PieceScan.{PieceScan}
use Rattle.msgpack_bytes.specs.declared.answers.PieceScan.TheVariants as taken
use Rattle.msgpack_bytes.specs.declared.scanner.Place.{Place}
use Rattle.msgpack_bytes.specs.Item.{longest, deepest}
use Rattle.msgpack_bytes.specs.Answers.{IsScanned}
use Rattle.msgpack_bytes.specs.Run.{Lacks, Stop, front_of, then_, many, run}
use Rattle.msgpack_bytes.specs.Steps.{BeginsSame}

-- what a scan of all bytes answers, with the end counted behind the first `before` of them
abbrev pub counted_from : ℕ → Scan → PieceScan
counted_from before (scan.End end) = taken.End (end - before)
counted_from before scan.Need = taken.Need
counted_from before (scan.Bad fault) = taken.Bad fault

-- what is right to answer to a piece, behind the bytes that were seen before: what a scan of all of
-- them answers
abbrev pub IsTaken : List ℕ → List ℕ → PieceScan → Type 0
IsTaken seen piece answer = (whole : Scan) × IsScanned (seen ++ piece) 0 whole
    × (answer ≡ counted_from (length seen) whole)

-- what a scanner keeps
pub record Scanning : Type 0 where
  pub missing : List ℕ  -- how many items each level still lacks
  pub place : Place
  pub front : List ℕ  -- the first bytes of the item that is cut
  pub over : Option PieceScan  -- what is answered from now on

-- the items that are missing on the levels below k
abbrev pub owed : List ℕ → ℕ → ℕ
owed counts zero = 0
owed counts (suc k) = slice_index counts k + owed counts k

-- what is behind the missing items of the levels below k, of which the innermost has items of that
-- depth
abbrev pub finish : List ℕ → ℕ → ℕ → List ℕ → Result (List ℕ) Stop
finish counts depth zero bytes = Ok bytes
finish counts depth (suc k) bytes = then_ (many (run depth) (slice_index counts k) bytes)
    (owed counts k) (finish counts (suc depth) k)

-- what the levels still owe, of the bytes behind those that are read
abbrev pub Reads : List ℕ → List ℕ → ℕ → ℕ → Type 0
Reads front missing depth levels = (back : List ℕ) → run deepest (front ++ back)
    ≡ finish missing depth levels back

-- the bytes up to i are read, on so many levels items are missing, and so many bytes may be added
-- to the least end
pub record State (bytes : List ℕ) (at i : ℕ) (missing : List ℕ) (levels room : ℕ) : Type 0 where
  pub here : (depth : ℕ) → depth + levels ≡ 65 → Reads (slice_range bytes at i) missing depth levels
  pub size : length missing ≡ 65
  pub few : levels ≤ 65
  pub above : at ≤ i
  pub within : i ≤ length bytes
  pub spent : room + (i - at) + owed missing levels ≡ longest

-- these bytes begin an item, and don't end in a whole scalar or header
abbrev pub LacksBytes : List ℕ → Type 0
LacksBytes bytes = (n : ℕ) × (front_of bytes ≡ Lacks n)

-- the bytes so far are whole scalars and headers, of whose items these are missing, and a part of
-- the next
pub record IsBegun (s : Scanning) (seen : List ℕ) : Type 0 where
  pub done : ℕ
  pub state : State seen 0 done s.missing s.place.levels s.place.room
  pub lies : done + s.place.came ≡ length seen
  pub short : s.place.came ≤ longest
  pub begins : BeginsSame 5 s.front (drop done seen)
  pub part : 0 < s.place.came → LacksBytes (drop done seen)

-- the same by what is answered from now on: nothing yet, or the item ended, or the bytes are none
abbrev pub IsAfterBy : Option PieceScan → Scanning → List ℕ → Type 0
IsAfterBy None s seen = IsBegun s seen
IsAfterBy (Some (taken.End n)) s seen = (n ≡ 0) × ((end : ℕ) × IsScanned seen 0 (scan.End end))
IsAfterBy (Some taken.Need) s seen = ⊥
IsAfterBy (Some (taken.Bad fault)) s seen = IsScanned seen 0 (scan.Bad fault)

-- the scanner was given these bytes, one piece after another
unfoldable pub IsAfter : Scanning → List ℕ → Type 0
IsAfter s seen = IsAfterBy s.over s seen

-- it was given some bytes
abbrev pub HasSeen : Scanning → Type 0
HasSeen s = (seen : List ℕ) × IsAfter s seen
