-- Items read from the front, by recursion on how deep they may nest: the form in which proofs use
-- them.
use Rattle.std.specs.Prelude.{ℕ, zero, suc, ◌+◌, ◌-◌, ◌*◌, ◌^◌, List, [], ◌∷◌, length, drop, Result, Ok, Err, nat_lt, if◌then◌else◌}
use Rattle.msgpack_bytes.specs.declared.format.Shape.{Shape}
use Rattle.msgpack_bytes.specs.declared.format.Shape.TheVariants.{Fixed, Sized, Holds, Counted, Never}
use Rattle.msgpack_bytes.specs.Format.{items_in, shape_of}

-- a number of so many bytes, the highest first, of which those that are missing count as 0
abbrev pub number : ℕ → List ℕ → ℕ
number zero bytes = 0
number (suc width) [] = 0
number (suc width) (byte ∷ bytes) = byte * 256 ^ width + number width bytes

-- the front of the bytes
pub data Front : Type 0 where
  Whole : (rest : List ℕ) → Front  -- a scalar, and what is behind it
  Opens : (n : ℕ) (rest : List ℕ) → Front  -- a container's header, n items, and what is behind
  Lacks : (n : ℕ) → Front  -- neither is whole: at least n bytes are missing
  Wrong : Front  -- no item begins so

-- the front where n bytes of content follow
abbrev pub content : ℕ → List ℕ → Front
content n bytes = if nat_lt (length bytes) n then Lacks (n - length bytes) else Whole (drop n bytes)

-- the front where a count of so many bytes follows, for n items
abbrev pub counted : ℕ → ℕ → List ℕ → Front
counted width n bytes = if nat_lt (length bytes) width then Lacks (width - length bytes + n)
    else Opens n (drop width bytes)

-- the front behind a first byte of this shape
abbrev pub behind_first : Shape → List ℕ → Front
behind_first (Fixed kind n) bytes = content n bytes
behind_first (Sized kind width extra) bytes = content (width + number width bytes + extra) bytes
behind_first (Holds container n) bytes = Opens (items_in container n) bytes
behind_first (Counted container width) bytes =
    counted width (items_in container (number width bytes)) bytes
behind_first Never bytes = Wrong

-- the front of these bytes
unfoldable pub front_of : List ℕ → Front
front_of [] = Lacks 1
front_of (first ∷ bytes) = behind_first (shape_of first) bytes

-- why there is no whole item at the front
pub data Stop : Type 0 where
  Missing : (n : ℕ) → Stop  -- at least n bytes have to follow
  Reserved : Stop
  Deep : Stop

-- one part and then another, which has at least so many bytes
abbrev pub then_ : Result (List ℕ) Stop → ℕ → (List ℕ → Result (List ℕ) Stop) → Result (List ℕ) Stop
then_ (Ok rest) least next = next rest
then_ (Err (Missing n)) least next = Err (Missing (n + least))
then_ (Err Reserved) least next = Err Reserved
then_ (Err Deep) least next = Err Deep

-- n parts
abbrev pub many : (List ℕ → Result (List ℕ) Stop) → ℕ → List ℕ → Result (List ℕ) Stop
many part zero bytes = Ok bytes
many part (suc n) bytes = then_ (part bytes) n (many part n)

-- what is behind a front, where its items are read so
abbrev pub behind : (ℕ → List ℕ → Result (List ℕ) Stop) → Front → Result (List ℕ) Stop
behind inner (Whole rest) = Ok rest
behind inner (Opens n rest) = inner n rest
behind inner (Lacks n) = Err (Missing n)
behind inner Wrong = Err Reserved

-- no items are read where no container may stand
abbrev pub none : ℕ → List ℕ → Result (List ℕ) Stop
none n bytes = Err Deep

-- where no container may begin: the first byte of one is refused, whatever follows it
abbrev pub flat : Shape → List ℕ → Result (List ℕ) Stop
flat (Fixed kind n) bytes = behind none (content n bytes)
flat (Sized kind width extra) bytes =
    behind none (content (width + number width bytes + extra) bytes)
flat (Holds container n) bytes = Err Deep
flat (Counted container width) bytes = Err Deep
flat Never bytes = Err Reserved

-- what is behind the item at the front, in which containers nest at most so deep
unfoldable pub run : ℕ → List ℕ → Result (List ℕ) Stop
run zero [] = Err (Missing 1)
run zero (first ∷ bytes) = flat (shape_of first) bytes
run (suc depth) bytes = behind (many (run depth)) (front_of bytes)
