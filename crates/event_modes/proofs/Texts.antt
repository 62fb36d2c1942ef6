-- The text of sixteen bytes.
use Rattle.std.proofs.Common.{ℕ, zero, suc, None, ◌≡◌, ◌≤◌, ◌<◌, ◌++◌, List, [], ◌∷◌, get_or, length, drop, ap, subst, ◌∙◌, sym, refl, Result, Ok, arith}
use Rattle.std.specs.Prelude.{OnOk}
use Rattle.std.specs.Int.{w32, w64, from_be_bytes}
use Rattle.std.proofs.lemmas.List.{append-nil, drop_all}
use Rattle.std.proofs.lemmas.Nat.{from_be_bytes-to_be_bytes_4, from_be_bytes-to_be_bytes_8}
use Rattle.base64.specs.GeneralPurpose.{encode_of, encoded_size_of, IsEncodedOver}
use Rattle.base64.specs.Engines.{standard}
use Rattle.base64.specs.declared.encode.EncodeSliceError.{EncodeSliceError}
use Rattle.base64.specs.GeneralPurpose.{IsBytes, decoded_bytes_of, decode_slice_of}
use Rattle.base64.specs.Rfc4648.{encode_symbols}
use Rattle.base64.specs.Decode.{decode_error, decoded_estimate, IsWrittenOver}
use Rattle.base64.specs.declared.decode.DecodeSliceError.{DecodeSliceError}
use Rattle.base64.proofs.RoundTrip.{decode-encode}
use Rattle.base64.proofs.Decoding.{slice_result_room}
use Rattle.std.specs.List.{AllByRecursion}
use Rattle.event_modes.specs.declared.chunk_id.ChunkId.{ChunkId}
use Rattle.event_modes.specs.ChunkIds.{HasSizes, chunk_bytes, chunk_text}

-- where there is room for just the text, the text is written
pub text_written : (m old new : List ℕ) (r : Result ℕ EncodeSliceError) → encoded_size_of standard (length m) ≡ length old
    → (encoded_size_of standard (length m) ≤ length old → r ≡ Ok (encoded_size_of standard (length m))) → OnOk r (IsEncodedOver standard m old new) → new ≡ encode_of standard m
text_written m old new r n f w =
    let ok = f (omega arith) in
    let e : IsEncodedOver standard m old new = subst (λ (x : Result ℕ EncodeSliceError). OnOk x (IsEncodedOver standard m old new)) ok w in
    e ∙ ap (λ (z : List ℕ). encode_of standard m ++ z) (drop_all (encoded_size_of standard (length m)) old (omega arith)) ∙ append-nil (encode_of standard m)

pub record Numbers (id : ChunkId) (bytes : List ℕ) : Type 0 where
  pub relay : from_be_bytes w32 (get_or bytes 0 0 ∷ get_or bytes 1 0 ∷ get_or bytes 2 0 ∷ get_or bytes 3 0 ∷ []) ≡ id.relay
  pub buffer : from_be_bytes w32 (get_or bytes 4 0 ∷ get_or bytes 5 0 ∷ get_or bytes 6 0 ∷ get_or bytes 7 0 ∷ []) ≡ id.buffer
  pub serial : from_be_bytes w64 (get_or bytes 8 0 ∷ get_or bytes 9 0 ∷ get_or bytes 10 0 ∷ get_or bytes 11 0 ∷ get_or bytes 12 0 ∷ get_or bytes 13 0 ∷ get_or bytes 14 0 ∷ get_or bytes 15 0 ∷ []) ≡ id.serial

-- the bytes give the numbers back
pub numbers_back : (id : ChunkId) (bytes spare : List ℕ) → HasSizes id → bytes ≡ chunk_bytes id ++ spare → Numbers id bytes
numbers_back id bytes spare h e = subst (Numbers id) (sym e) (record {
  relay = from_be_bytes-to_be_bytes_4 id.relay h.relay;
  buffer = from_be_bytes-to_be_bytes_4 id.buffer h.buffer;
  serial = from_be_bytes-to_be_bytes_8 id.serial h.serial;
})

pub same_id : (a b : ChunkId) → a.relay ≡ b.relay → a.buffer ≡ b.buffer → a.serial ≡ b.serial → a ≡ b
same_id a b r u s = ap (λ (x : ℕ). id_of x a.buffer a.serial) r ∙ ap (λ (x : ℕ). id_of b.relay x a.serial) u ∙ ap (λ (x : ℕ). id_of b.relay b.buffer x) s
  where
    id_of : ℕ → ℕ → ℕ → ChunkId
    id_of r u s = record { relay = r; buffer = u; serial = s }

-- ---- a text is read

small_cells : (bs : List ℕ) → AllByRecursion (λ b. b < 256) bs → IsBytes bs
small_cells [] p i = omega arith
small_cells (b ∷ bs) p zero = p.0
small_cells (b ∷ bs) p (suc i) = small_cells bs p.1 i

high_bytes : (id : ChunkId) → IsBytes (chunk_bytes id)
high_bytes id = small_cells (chunk_bytes id) (
  omega arith,
  (
    omega arith,
    (
      omega arith,
      (
        omega arith,
        (
          omega arith,
          (
            omega arith,
            (
              omega arith,
              (
                omega arith,
                (omega arith, (omega arith, (omega arith, (omega arith, (omega arith, (omega arith, (omega arith, (omega arith, tt)))))))),
              ),
            ),
          ),
        ),
      ),
    ),
  ),
)

text_length : (id : ChunkId) → length (encode_of standard (chunk_bytes id)) ≡ 24
unfolding encode_symbols
text_length id = refl

pub record Decodes (id : ChunkId) (s : List ℕ) : Type 0 where
  pub error : decode_error standard.decode_table standard.padding.value standard.config.decode_allow_trailing_bits standard.config.decode_padding_mode s ≡ None
  pub bytes : decoded_bytes_of standard s ≡ chunk_bytes id

pub text_decodes : (id : ChunkId) (s : List ℕ) → s ≡ chunk_text id → Decodes id s
unfolding chunk_text
text_decodes id s e =
    let both = decode-encode standard.encode_table standard.decode_table (chunk_bytes id) standard.padding.value standard.config.decode_allow_trailing_bits standard.config.decode_padding_mode standard.config.encode_padding standard.tables (high_bytes id) refl in
    subst (Decodes id) (sym e) (record { error = both.0; bytes = both.1 })

pub decoded_room : (id : ChunkId) (s : List ℕ) (r : Result ℕ DecodeSliceError) → s ≡ chunk_text id → r ≡ decode_slice_of standard s 18 → r ≡ Ok 16
unfolding chunk_text
decoded_room id s r e v =
    let d = text_decodes id s e in
    let l : length s ≡ 24 = ap length e ∙ text_length id in
    let room : decoded_estimate (length s) ≤ 18 = omega arith in
    let n : length (decoded_bytes_of standard s) ≡ 16 = ap length d.bytes in
    v ∙ slice_result_room standard.decode_table s standard.padding.value standard.config.decode_allow_trailing_bits standard.config.decode_padding_mode 18 room ∙ rw d.error (ap (λ (k : ℕ). Ok k) n)

-- what is read of a text is its name
pub decoded_whole : (id : ChunkId) (s old new : List ℕ) (r : Result ℕ DecodeSliceError) → s ≡ chunk_text id → r ≡ decode_slice_of standard s 18 → OnOk r (IsWrittenOver (decoded_bytes_of standard s) old new)
    → new ≡ chunk_bytes id ++ drop (length (decoded_bytes_of standard s)) old
decoded_whole id s old new r e v w =
    let ok = subst (λ (x : Result ℕ DecodeSliceError). OnOk x (IsWrittenOver (decoded_bytes_of standard s) old new)) (decoded_room id s r e v) w in
    ok ∙ ap (λ (z : List ℕ). z ++ drop (length (decoded_bytes_of standard s)) old) (text_decodes id s e).bytes

pub chunk_text_length : (id : ChunkId) → length (chunk_text id) ≡ 24
unfolding chunk_text
chunk_text_length id = text_length id
