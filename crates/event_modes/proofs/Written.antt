-- What is written is a message.
use Rattle.std.proofs.Common.{ℕ, zero, suc, ◌≡◌, ◌<◌, ◌≤◌, ◌^◌, pos, List, [], ◌∷◌, ◌++◌, length, refl, ap, sym, ◌∙◌, arith, append_assoc, inl, inr, Option, Some, None}
use Rattle.std.specs.Prelude.{codes, IfSome, option_map}
use Rattle.std.specs.List.{AllByRecursion, AllZip, concat}
use Rattle.std.proofs.lemmas.List.{append-nil, length-append}
use Rattle.msgpack_bytes.specs.declared.format.Kind.TheVariants as kind
use Rattle.msgpack_bytes.specs.declared.format.Container.TheVariants as container
use Rattle.msgpack_bytes.specs.Item.{IsScalar, Item, longest, IsItemWithin}
use Rattle.msgpack_bytes.specs.Kinds.{IsStr, IsBin, IsText, IsArrayHeader, IsMapHeader}
use Rattle.msgpack_bytes.specs.Spelling.{uint_of, str_header_of, str_of, bin_of, array_header_of, map_header_of}
use Rattle.msgpack_bytes.proofs.Shortest.{str_spelled, bin_spelled, array_spelled, map_spelled, uint_spelled}
use Rattle.msgpack_bytes.specs.Containers.{IsPart}
use Rattle.msgpack_bytes.proofs.Contained.{row_item, pairs_map}
use Rattle.event_modes.specs.Entry.{IsEntry}
use Rattle.event_modes.specs.Rows.{IsStored}
use Rattle.msgpack_bytes.specs.Names.{IsNamed}
use Rattle.event_modes.specs.Options.{IsFit, IsOption, longest_chunk}
use Rattle.event_modes.specs.Pairs.{pair_of}
use Rattle.event_modes.specs.Message.{Packed, IsMessage, longest_tag}
use Rattle.event_modes.specs.Packed.{option_of, packed_message, said}
use Rattle.event_modes.proofs.Parting.{all_map, container_is_item}
use Rattle.event_modes.proofs.Begins.{text_one, no_text_nil}
use Rattle.event_modes.proofs.Heads.{integer_scalar}
use Rattle.event_modes.proofs.Stored.{no_longer}

-- ---- scalars and containers at a depth

scalar_at : (depth : ℕ) (bytes : List ℕ) → IsScalar bytes → Item depth bytes
unfolding Item
scalar_at zero bytes s = s
scalar_at (suc depth) bytes s = inl s

text_scalar : (bytes content : List ℕ) → IsText bytes content → IsScalar bytes
text_scalar bytes content (inl s) = record { kind = kind.Str; content = content; spelled = s }
text_scalar bytes content (inr s) = record { kind = kind.Bin; content = content; spelled = s }

scalar_part : (bytes : List ℕ) → IsScalar bytes → IsPart bytes
scalar_part bytes s = scalar_at 63 bytes s

-- ---- the option

-- a text of another length is another name
other_name : (key name other : List ℕ) → IsText key name → (length name ≡ length other → ⊥) → IsText key other → ⊥
other_name key name other t n o = n (ap length (text_one key name other t o))

size_fit : (key value : List ℕ) → IsText key (codes "size") → IsFit (pair_of key value)
size_fit key value t = record {
  chunk = λ n. absurd (other_name key (codes "size") (codes "chunk") t (λ e. omega arith) n);
  compressed = λ n. absurd (other_name key (codes "size") (codes "compressed") t (λ e. omega arith) n);
}

chunk_fit : (key value content : List ℕ) → IsText key (codes "chunk") → IsText value content → length value ≤ longest_chunk → IsFit (pair_of key value)
chunk_fit key value content t v l = record {
  chunk = λ n. inr (content, v, l);
  compressed = λ n. absurd (other_name key (codes "chunk") (codes "compressed") t (λ e. omega arith) n);
}

no_chunk : (key value : List ℕ) → IsText key (codes "size") → IsNamed (codes "chunk") (pair_of key value) → ⊥
no_chunk key value t n = other_name key (codes "size") (codes "chunk") t (λ e. omega arith) n

record Written (option : List ℕ) (ack : Option (List ℕ)) : Type 0 where
  part : IsPart option
  asks : IsOption (Some option) ack

size_alone : (h k c : List ℕ) → IsMapHeader 1 h → IsText k (codes "size") → IsScalar c → Written (h ++ (k ++ c)) None
size_alone h k c m t s =
    let ks = text_scalar k (codes "size") t in
    record {
      part = row_item 62 (h ++ (k ++ c)) (record {
        container = container.Map;
        n = 1;
        header = h;
        inner = k ++ c;
        counted = m;
        parts = (k, c, scalar_at 62 k ks, (c, [], scalar_at 62 c s, refl, sym (append-nil c)), refl);
        whole = refl;
      });
      asks = inr (
        pair_of k c ∷ [],
        pairs_map (pair_of k c ∷ []) (h ++ (k ++ c)) (record { header = h; counted = m; each = (record { key = scalar_part k ks; value = scalar_part c s }, tt); whole = ap (λ (z : List ℕ). h ++ z) (sym (append-nil (k ++ c))) }),
        (size_fit k c t, tt),
        inl (no_chunk k c t, tt),
      );
    }

size_and_chunk : (h k c j v content : List ℕ) → IsMapHeader 2 h → IsText k (codes "size") → IsScalar c → IsText j (codes "chunk") → IsText v content → length v ≤ longest_chunk → Written (h ++ (k ++ (c ++ (j ++ v)))) (Some v)
size_and_chunk h k c j v content m t s u w l =
    let ks = text_scalar k (codes "size") t in
    let js = text_scalar j (codes "chunk") u in
    let vs = text_scalar v content w in
    record {
      part = row_item 62 (h ++ (k ++ (c ++ (j ++ v)))) (record {
        container = container.Map;
        n = 2;
        header = h;
        inner = k ++ (c ++ (j ++ v));
        counted = m;
        parts = (k, c ++ (j ++ v), scalar_at 62 k ks, (c, j ++ v, scalar_at 62 c s, (j, v, scalar_at 62 j js, (v, [], scalar_at 62 v vs, refl, sym (append-nil v)), refl), refl), refl);
        whole = refl;
      });
      asks = inr (
        pair_of k c ∷ pair_of j v ∷ [],
        pairs_map (pair_of k c ∷ pair_of j v ∷ []) (h ++ (k ++ (c ++ (j ++ v)))) (record {
          header = h;
          counted = m;
          each = (record { key = scalar_part k ks; value = scalar_part c s }, (record { key = scalar_part j js; value = scalar_part v vs }, tt));
          whole = ap (λ (z : List ℕ). h ++ z) (ap (λ (z : List ℕ). k ++ (c ++ z)) (sym (append-nil (j ++ v))) ∙ sym (append_assoc k c ((j ++ v) ++ [])));
        }),
        (size_fit k c t, (chunk_fit j v content u w l, tt)),
        (record { before = pair_of k c ∷ []; key = j; after = []; named = u; last = tt; whole = refl }, no_text_nil v content w),
      );
    }

-- ---- the message

same_entries : (entries : List (List ℕ)) → AllByRecursion IsStored entries → AllZip IsEntry entries entries
same_entries [] p = tt
same_entries (e ∷ es) p = (p.0.kept, same_entries es p.1)

whole_message : (h t b o tag : List ℕ) (entries : List (List ℕ)) (ack : Option (List ℕ)) → IsArrayHeader 3 h → IsStr t tag → IsBin b (concat entries) → Written o ack → AllByRecursion IsStored entries
    → length tag ≤ longest_tag → length (h ++ (t ++ (b ++ o))) ≤ longest → IsMessage (h ++ (t ++ (b ++ o))) (record { tag = tag; entries = entries; ack = ack })
whole_message h t b o tag entries ack m s c w st lt l =
    let tp = scalar_part t (text_scalar t tag (inl s)) in
    let bp = scalar_part b (text_scalar b (concat entries) (inr c)) in
    record {
      item = record {
        item = container_is_item (h ++ (t ++ (b ++ o))) (record {
          container = container.Array;
          n = 3;
          header = h;
          inner = t ++ (b ++ o);
          counted = m;
          parts = (t, b ++ o, tp, (b, o, bp, (o, [], w.part, refl, sym (append-nil o)), refl), refl);
          whole = refl;
        });
        short = l;
      };
      frame = record { tag = t; carrier = Packed (concat entries); option = Some o };
      framed = record {
        elements = t ∷ b ∷ o ∷ [];
        array = record { header = h; counted = m; all = refl; each = (tp, (bp, (w.part, tt))); whole = ap (λ (z : List ℕ). h ++ (t ++ (b ++ z))) (sym (append-nil o)) };
        laid_out = (b, refl, inr c);
      };
      tag = (inl s, lt);
      entries = (entries, all_map IsStored IsItemWithin entries (λ x p. p.item) st, refl, same_entries entries st);
      ack = w.asks;
    }

size_key : IsText (str_of (codes "size")) (codes "size")
size_key = inl (str_spelled (codes "size") (omega arith)).0

chunk_key : IsText (str_of (codes "chunk")) (codes "chunk")
chunk_key = inl (str_spelled (codes "chunk") (omega arith)).0

count_scalar : (n : ℕ) → n < 2 ^ 64 → IsScalar (uint_of n)
count_scalar n l = integer_scalar (uint_of n) (pos n) (uint_spelled n l).0

chunk_short : (text : List ℕ) → length text ≡ 24 → length (str_of text) ≤ longest_chunk
chunk_short text e =
    let h : length (str_header_of (length text)) ≡ 1 = ap (λ (n : ℕ). length (str_header_of n)) e in
    omega (arith, length-append (str_header_of (length text)) text)

written : (n : ℕ) (chunk : Option (List ℕ)) → n < 2 ^ 64 → IfSome chunk (λ text. length text ≡ 24) → Written (option_of n chunk) (option_map str_of chunk)
written n None l c = size_alone (map_header_of 1) (str_of (codes "size")) (uint_of n) (map_spelled 1 (omega arith)).0 size_key (count_scalar n l)
written n (Some text) l c =
    size_and_chunk (map_header_of 2) (str_of (codes "size")) (uint_of n) (str_of (codes "chunk")) (str_of text) text (map_spelled 2 (omega arith)).0 size_key (count_scalar n l) chunk_key
    (inl (str_spelled text (omega arith)).0) (chunk_short text c)

-- what is written is a message
pub is_message : (tag : List ℕ) (entries : List (List ℕ)) (chunk : Option (List ℕ)) → length tag ≤ longest_tag → length (concat entries) < 2 ^ 32 → AllByRecursion IsStored entries → IfSome chunk (λ text. length text ≡ 24)
    → length (packed_message tag entries chunk) ≤ longest → IsMessage (packed_message tag entries chunk) (said tag entries chunk)
is_message tag entries chunk lt le st c l =
    whole_message (array_header_of 3) (str_of tag) (bin_of (concat entries)) (option_of (length entries) chunk) tag entries (option_map str_of chunk) (array_spelled 3 (omega arith)).0 (str_spelled tag (omega arith)).0
    (bin_spelled (concat entries) le).0 (written (length entries) chunk (omega (arith, no_longer entries st)) c) st lt l
