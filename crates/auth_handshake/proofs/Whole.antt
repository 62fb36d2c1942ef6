-- Written messages are items, and say what was written.
use Rattle.std.proofs.Common.{ℕ, zero, suc, ◌≡◌, ◌<◌, ◌≤◌, List, [], ◌∷◌, ◌++◌, length, refl, ap, sym, subst, ◌∙◌, arith, append_assoc, inl, inr, Bool, true, false, codes}
use Rattle.std.specs.List.{AllByRecursion, concat, flat_map}
use Rattle.std.proofs.lemmas.List.{length-append}
use Rattle.msgpack_bytes.specs.declared.format.Kind.TheVariants as kind
use Rattle.msgpack_bytes.specs.declared.format.Container.TheVariants as container
use Rattle.msgpack_bytes.specs.declared.format.Shape.{Shape}
use Rattle.msgpack_bytes.specs.declared.format.Shape.TheVariants.{Fixed}
use Rattle.msgpack_bytes.specs.Format.{shape_of}
use Rattle.msgpack_bytes.specs.Sizes.{Sizes}
use Rattle.msgpack_bytes.specs.Parts.{Row}
use Rattle.msgpack_bytes.specs.Item.{IsScalarHeader, IsScalar, Item, longest, IsItemWithin}
use Rattle.msgpack_bytes.specs.Kinds.{IsText, IsArrayHeader}
use Rattle.msgpack_bytes.specs.Spelling.{str_of, bin_of, bool_of, array_header_of, map_header_of}
use Rattle.msgpack_bytes.specs.Containers.{Pair, pair_bytes, IsArrayOf}
use Rattle.auth_handshake.specs.Messages.{IsPong}
use Rattle.auth_handshake.specs.Written.{array_of, map_of, named, helo_options, helo_bytes}
use Rattle.auth_handshake.specs.Laws.{IsHost, IsHeloRead, IsPingRead, IsPongRead, IsRefusalRead}
use Rattle.auth_handshake.proofs.Parts.{text_scalar, bool_scalar, scalars_array}
use Rattle.msgpack_bytes.proofs.Headers.{scalar_sizes}
use Rattle.msgpack_bytes.proofs.Contained.{row_item}
use Rattle.msgpack_bytes.proofs.Shortest.{str_spelled, bin_spelled, array_spelled, map_spelled}
use Rattle.auth_handshake.proofs.Lengths.{str_length, bin_length}

-- ---- items

scalar_part : (depth : ℕ) (bytes : List ℕ) → IsScalar bytes → Item depth bytes
unfolding Item
scalar_part zero bytes p = p
scalar_part (suc depth) bytes p = inl p

row_of : (depth : ℕ) (items : List (List ℕ)) → AllByRecursion IsScalar items → Row (Item depth) (length items) (concat items)
row_of depth [] p = refl
row_of depth (x ∷ items) p = (x, concat items, scalar_part depth x p.0, row_of depth items p.1, refl)

-- an array of scalars, short enough
array_item : (items : List (List ℕ)) (header : List ℕ) → IsArrayHeader (length items) header → AllByRecursion IsScalar items → length (header ++ concat items) ≤ longest → IsItemWithin (header ++ concat items)
array_item items header h p short = record {
  item = row_item 63 (header ++ concat items) (record { container = container.Array; n = length items; header = header; inner = concat items; counted = h; parts = row_of 63 items p; whole = refl });
  short = short;
}

array_is : (items : List (List ℕ)) → IsArrayHeader (length items) (array_header_of (length items)) → AllByRecursion IsScalar items → length (array_of items) ≤ longest → IsArrayOf IsItemWithin items (array_of items)
array_is items h p short = scalars_array (array_of items) (array_header_of (length items)) items (array_item items (array_header_of (length items)) h p short) h refl p

array_is_item : (items : List (List ℕ)) → IsArrayHeader (length items) (array_header_of (length items)) → AllByRecursion IsScalar items → length (array_of items) ≤ longest → IsItemWithin (array_of items)
array_is_item items h p short = array_item items (array_header_of (length items)) h p short

text : (content : List ℕ) → length content < 65536 → IsText (str_of content) content
text content h = inl (str_spelled content (omega arith)).0

scalar : (content : List ℕ) → length content < 65536 → IsScalar (str_of content)
scalar content h = text_scalar (str_of content) content (text content h)

binary : (content : List ℕ) → length content < 256 → IsScalar (bin_of content)
binary content h = text_scalar (bin_of content) content (inr (bin_spelled content (omega arith)).0)

-- ---- PING

ping_items : (host salt digest : List ℕ) → List (List ℕ)
ping_items host salt digest = str_of (codes "PING") ∷ str_of host ∷ bin_of salt ∷ str_of digest ∷ str_of [] ∷ str_of [] ∷ []

pub ping_is : IsPingRead
unfolding ping_items
ping_is host salt digest h s d =
    let host_fits : length host < 65536 = omega (arith, h) in
    let salt_fits : length salt < 256 = omega (arith, s) in
    let digest_fits : length digest < 65536 = omega (arith, d) in
    let items = ping_items host salt digest in
    let scalars : AllByRecursion IsScalar items = (scalar (codes "PING") (omega arith), (scalar host host_fits, (binary salt salt_fits, (scalar digest digest_fits, (scalar [] (omega arith), (scalar [] (omega arith), tt)))))) in
    let short : length (array_of items) ≤ longest =
    omega (
      arith,
      length-append (str_of host) (bin_of salt ++ (str_of digest ++ (0xa0 ∷ 0xa0 ∷ []))),
      length-append (bin_of salt) (str_of digest ++ (0xa0 ∷ 0xa0 ∷ [])),
      length-append (str_of digest) (0xa0 ∷ 0xa0 ∷ []),
      str_length host host_fits,
      bin_length salt salt_fits,
      str_length digest digest_fits,
    ) in
    record {
      item = array_is_item items (array_spelled 6 (omega arith)).0 scalars short;
      name = str_of (codes "PING");
      host = str_of host;
      salt = bin_of salt;
      digest = str_of digest;
      user = str_of [];
      password = str_of [];
      array = array_is items (array_spelled 6 (omega arith)).0 scalars short;
      named = text (codes "PING") (omega arith);
      is_host = text host host_fits;
      is_salt = inr (bin_spelled salt (omega arith)).0;
      is_digest = text digest digest_fits;
      is_user = ([], text [] (omega arith));
      is_password = ([], text [] (omega arith));
    }

-- ---- PONG

boolean : (value : Bool) → IsScalar (bool_of value)
boolean value = bool_scalar (bool_of value) value refl

pong_items : Bool → (reason host digest : List ℕ) → List (List ℕ)
pong_items value reason host digest = str_of (codes "PONG") ∷ bool_of value ∷ str_of reason ∷ str_of host ∷ str_of digest ∷ []

-- a PONG whose texts have at most 1,024 bytes each
pong_with : (value : Bool) (reason host digest : List ℕ) → IsHost reason → IsHost host → IsHost digest
    → IsPong (array_of (str_of (codes "PONG") ∷ bool_of value ∷ str_of reason ∷ str_of host ∷ str_of digest ∷ [])) (record { accepted = value; reason = reason; host = host; digest = digest })
unfolding pong_items
pong_with value reason host digest r h d =
    let reason_fits : length reason < 65536 = omega (arith, r) in
    let host_fits : length host < 65536 = omega (arith, h) in
    let digest_fits : length digest < 65536 = omega (arith, d) in
    let items = pong_items value reason host digest in
    let scalars : AllByRecursion IsScalar items = (scalar (codes "PONG") (omega arith), (boolean value, (scalar reason reason_fits, (scalar host host_fits, (scalar digest digest_fits, tt))))) in
    let short : length (array_of items) ≤ longest =
    omega (
      arith,
      length-append (str_of reason) (str_of host ++ (str_of digest ++ [])),
      length-append (str_of host) (str_of digest ++ []),
      length-append (str_of digest) [],
      str_length reason reason_fits,
      str_length host host_fits,
      str_length digest digest_fits,
    ) in
    record {
      item = array_is_item items (array_spelled 5 (omega arith)).0 scalars short;
      name = str_of (codes "PONG");
      result = bool_of value;
      reason = str_of reason;
      host = str_of host;
      digest = str_of digest;
      array = array_is items (array_spelled 5 (omega arith)).0 scalars short;
      named = text (codes "PONG") (omega arith);
      is_result = refl;
      is_reason = text reason reason_fits;
      is_host = text host host_fits;
      is_digest = text digest digest_fits;
    }

pub pong_is : IsPongRead
pong_is host digest h d = pong_with true [] host digest (omega arith) h (omega (arith, d))

pub refusal_is : IsRefusalRead
refusal_is reason r = pong_with false reason [] [] r (omega arith) (omega arith)

-- ---- HELO

-- a pair more in front
pair_more : (depth n : ℕ) (pair : Pair) (rest : List ℕ) → IsScalar pair.key → IsScalar pair.value → Row (Item depth) n rest → Row (Item depth) (suc (suc n)) (pair_bytes pair ++ rest)
pair_more depth n pair rest k v row =
    (pair.key, pair.value ++ rest, scalar_part depth pair.key k, (pair.value, rest, scalar_part depth pair.value v, row, refl), append_assoc pair.key pair.value rest)

abbrev IsScalarPair : Pair → Type 0
IsScalarPair pair = IsScalar pair.key × IsScalar pair.value

map_row : (depth : ℕ) (p q r : Pair) → IsScalarPair p → IsScalarPair q → IsScalarPair r → Row (Item depth) 6 (flat_map pair_bytes (p ∷ q ∷ r ∷ []))
map_row depth p q r hp hq hr =
    pair_more depth 4 p (pair_bytes q ++ (pair_bytes r ++ [])) hp.0 hp.1 (pair_more depth 2 q (pair_bytes r ++ []) hq.0 hq.1 (pair_more depth 0 r [] hr.0 hr.1 refl))

map_item : (depth : ℕ) (p q r : Pair) → IsScalarPair p → IsScalarPair q → IsScalarPair r → Item (suc depth) (map_of (p ∷ q ∷ r ∷ []))
map_item depth p q r hp hq hr = row_item depth (map_of (p ∷ q ∷ r ∷ [])) (record {
  container = container.Map;
  n = 3;
  header = map_header_of 3;
  inner = flat_map pair_bytes (p ∷ q ∷ r ∷ []);
  counted = (map_spelled 3 (omega arith)).0;
  parts = map_row depth p q r hp hq hr;
  whole = refl;
})

helo_item : (name options : List ℕ) → IsScalar name → Item 63 options → length (array_of (name ∷ options ∷ [])) ≤ longest → IsItemWithin (array_of (name ∷ options ∷ []))
helo_item name options n o short = record {
  item = row_item 63 (array_of (name ∷ options ∷ [])) (record {
    container = container.Array;
    n = 2;
    header = array_header_of 2;
    inner = concat (name ∷ options ∷ []);
    counted = (array_spelled 2 (omega arith)).0;
    parts = (name, options ++ [], scalar_part 63 name n, (options, [], o, refl, refl), refl);
    whole = refl;
  });
  short = short;
}

-- a short str has the length that its first byte says
short_text : (first n : ℕ) (rest content : List ℕ) → shape_of first ≡ Fixed kind.Str n → IsText (first ∷ rest) content → length content ≡ n
short_text first n rest content e (inl p) = go p.header p.sized p.whole
  where
    go : (header : List ℕ) → IsScalarHeader kind.Str (length content) header → first ∷ rest ≡ header ++ content → length content ≡ n
    go [] h w = absurd h
    go (a ∷ size) h w = let f : first ≡ a = cc in (subst (λ (s : Shape). Sizes s kind.Str (length content) size) (ap shape_of (sym f) ∙ e) (scalar_sizes kind.Str (length content) a size h)).2
short_text first n rest content e (inr p) = go p.header p.sized p.whole
  where
    go : (header : List ℕ) → IsScalarHeader kind.Bin (length content) header → first ∷ rest ≡ header ++ content → length content ≡ n
    go [] h w = absurd h
    go (a ∷ size) h w =
        let f : first ≡ a = cc in
        let k = (subst (λ (s : Shape). Sizes s kind.Bin (length content) size) (ap shape_of (sym f) ∙ e) (scalar_sizes kind.Bin (length content) a size h)).0 in
        absurd cc

no_auth : IsText (str_of (codes "auth")) (codes "nonce") → ⊥
unfolding shape_of
no_auth p = let e = short_text 0xa4 4 (codes "auth") (codes "nonce") refl p in absurd (omega arith)

no_keepalive : IsText (str_of (codes "keepalive")) (codes "nonce") → ⊥
unfolding shape_of
no_keepalive p = let e = short_text 0xa9 9 (codes "keepalive") (codes "nonce") refl p in absurd (omega arith)

scalar_item_of : (bytes : List ℕ) → IsScalar bytes → length bytes ≤ longest → IsItemWithin bytes
scalar_item_of bytes p short = record { item = scalar_part 64 bytes p; short = short }

pub helo_is : IsHeloRead
helo_is nonce h =
    let fits : length nonce < 256 = omega (arith, h) in
    let long : length (bin_of nonce) ≡ 18 = omega (arith, bin_length nonce fits, h) in
    let key = scalar (codes "nonce") (omega arith) in
    let auth = scalar (codes "auth") (omega arith) in
    let alive = scalar (codes "keepalive") (omega arith) in
    let empty = scalar [] (omega arith) in
    let value = binary nonce fits in
    let options = map_of (helo_options nonce) in
    let options_length : length options ≤ 100 = omega (arith, length-append (bin_of nonce) (flat_map pair_bytes (named (codes "auth") (str_of []) ∷ named (codes "keepalive") (bool_of true) ∷ []))) in
    let whole_length : length (helo_bytes nonce) ≤ longest = omega (arith, length-append options []) in
    let name = scalar (codes "HELO") (omega arith) in
    let item : (depth : ℕ) → Item (suc depth) options =
    λ depth. map_item depth (named (codes "nonce") (bin_of nonce)) (named (codes "auth") (str_of [])) (named (codes "keepalive") (bool_of true)) (key, value) (auth, empty) (alive, boolean true) in
    let options_item : IsItemWithin options = record { item = item 63; short = omega arith } in
    record {
      item = helo_item (str_of (codes "HELO")) options name (item 62) whole_length;
      name = str_of (codes "HELO");
      options = options;
      array = record { header = array_header_of 2; counted = (array_spelled 2 (omega arith)).0; each = (scalar_item_of (str_of (codes "HELO")) name (omega arith), (options_item, tt)); whole = refl };
      named = text (codes "HELO") (omega arith);
      pairs = helo_options nonce;
      map = record {
        header = map_header_of 3;
        counted = (map_spelled 3 (omega arith)).0;
        each = (
          record { key = scalar_item_of (str_of (codes "nonce")) key (omega arith); value = scalar_item_of (bin_of nonce) value (omega arith) },
          (
            record { key = scalar_item_of (str_of (codes "auth")) auth (omega arith); value = scalar_item_of (str_of []) empty (omega arith) },
            (record { key = scalar_item_of (str_of (codes "keepalive")) alive (omega arith); value = scalar_item_of (bool_of true) (boolean true) (omega arith) }, tt),
          ),
        );
        whole = refl;
      };
      value = bin_of nonce;
      last = record {
        before = [];
        key = str_of (codes "nonce");
        after = named (codes "auth") (str_of []) ∷ named (codes "keepalive") (bool_of true) ∷ [];
        named = text (codes "nonce") (omega arith);
        last = (no_auth, (no_keepalive, tt));
        whole = refl;
      };
      text = inr (bin_spelled nonce (omega arith)).0;
    }
