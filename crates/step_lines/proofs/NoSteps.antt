-- Words that are no step's.
use Rattle.std.proofs.Common.{◌≡◌, ℕ, ◌≤◌, ◌↔◌, Bool, false, List, [], ◌∷◌, suc, ◌+◌, length, map, IsTrue, Ok, codes, refl, ap, subst, arith}
use Rattle.std.specs.Borrow.{Bor}
use Rattle.std.proofs.lemmas.List.{length-map}
use Rattle.std.specs.List.{AllZip}
use Rattle.hex.specs.Hex.{decode_of}
use Rattle.step_lines.specs.Texts.{texts_of}
use Rattle.step_lines.specs.declared.step.ChunkName.{ChunkName}
use Rattle.step_lines.specs.declared.step.Step.TheVariants as step
use Rattle.step_lines.specs.StepLines.{IsNumber, IsChunkName, AreNumbers, AreOfChunk, NoStep, IsNoneOf, number_words, chunk_words, counted_words}
use Rattle.tag_pattern.specs.Parts.{most_tag_bytes}

-- a test of a word that failed
pub other_word : {b : Bool} {X : Type 0} → IsTrue b ↔ X → b ≡ false → ¬ X
other_word h e x = let holds = h.1 x in absurd (cc)

-- as many words as numbers
all_zip_length : {X Y : Type 0} (R : X → Y → Type 0) (xs : List X) (ys : List Y) → AllZip R xs ys → length xs ≡ length ys
all_zip_length R [] [] h = refl
all_zip_length R [] (y ∷ ys) h = absurd h
all_zip_length R (x ∷ xs) [] h = absurd h
all_zip_length R (x ∷ xs) (y ∷ ys) h = let rest = all_zip_length R xs ys h.1 in cc

-- other parts than three are no name's
pub not_three : (parts : List (Bor (List ℕ))) (a b c : ℕ) → ¬ (length parts ≡ 3) → ¬ (AllZip IsNumber (map (λ (part : Bor (List ℕ)). part.now) parts) (a ∷ b ∷ c ∷ []))
not_three [] a b c other h = absurd h
not_three (x ∷ []) a b c other h = absurd h.1
not_three (x ∷ y ∷ []) a b c other h = absurd h.1.1
not_three (x ∷ y ∷ z ∷ []) a b c other h = other refl
not_three (x ∷ y ∷ z ∷ w ∷ more) a b c other h = absurd h.1.1.1

-- what a word and others are that are one word and numbers
pub number_fields : (name other : List ℕ) (fields : List (List ℕ)) (numbers : List ℕ) → AreNumbers other (name ∷ fields) numbers → (name ≡ other) × AllZip IsNumber fields numbers
number_fields name other fields numbers h = let same : h.0 ≡ fields = cc in (cc, subst (λ those. AllZip IsNumber those numbers) same h.2)

-- the same where the first of the others names a chunk
pub chunk_fields : (name other word : List ℕ) (fields : List (List ℕ)) (chunk : ChunkName) (numbers : List ℕ) → AreOfChunk other (name ∷ word ∷ fields) chunk numbers
    → (name ≡ other) × IsChunkName word chunk × AllZip IsNumber fields numbers
chunk_fields name other word fields chunk numbers h =
    let field_is : h.0 ≡ word = cc in
    let same : h.1 ≡ fields = cc in
    (cc, subst (λ w. IsChunkName w chunk) field_is h.3, subst (λ those. AllZip IsNumber those numbers) same h.4)

-- the words are of no form
pub record Refused (words : List (List ℕ)) : Type 0 where
  pub send : (number tag : List ℕ) (texts : List (List ℕ)) → words ≡ codes "send" ∷ number ∷ tag ∷ texts → (n : ℕ) → IsNumber number n → length tag ≤ most_tag_bytes → (entries : List (List ℕ)) → ¬ (AllZip (λ word entry. decode_of word ≡ Ok entry) texts entries)
  pub number : (name : List ℕ) (n : ℕ) → AreNumbers name words (n ∷ []) → ¬ (¬ (IsNoneOf name number_words))
  pub chunk : (name : List ℕ) (chunk : ChunkName) → AreOfChunk name words chunk [] → ¬ (¬ (IsNoneOf name chunk_words))
  pub counted : (name : List ℕ) (chunk : ChunkName) (n : ℕ) → AreOfChunk name words chunk (n ∷ []) → ¬ (¬ (IsNoneOf name counted_words))
  pub append : (delivery buffer serial : ℕ) → ¬ (AreNumbers (codes "append") words (delivery ∷ buffer ∷ serial ∷ []))
  pub oldest : (relay buffer : ℕ) → ¬ (AreNumbers (codes "oldest") words (relay ∷ buffer ∷ []))

-- words of no form are no step's
pub no_form : {A : Type 0} (words : List (List ℕ)) → Refused words → NoStep A words
no_form words r (step.Send client tag entries) h = r.send h.0 tag h.1 h.2 client h.3 h.4 (texts_of entries.items) h.5
no_form words r (step.Begin message) h = r.number _ message h (λ none. none.0 refl)
no_form words r (step.Append delivery buffer serial) h = r.append delivery buffer serial h
no_form words r (step.Ack delivery) h = r.number _ delivery h (λ none. none.1.0 refl)
no_form words r (step.Abandon delivery) h = r.number _ delivery h (λ none. none.1.1.0 refl)
no_form words r (step.Foreign message) h = r.number _ message h (λ none. none.1.1.1.0 refl)
no_form words r (step.Enqueue chunk) h = r.chunk _ chunk h (λ none. none.0 refl)
no_form words r (step.Claim chunk) h = r.chunk _ chunk h (λ none. none.1.0 refl)
no_form words r (step.Back chunk) h = r.chunk _ chunk h (λ none. none.1.1.0 refl)
no_form words r (step.Forward chunk server) h = r.counted _ chunk server h (λ none. none.0 refl)
no_form words r (step.Seen chunk) h = r.chunk _ chunk h (λ none. none.1.1.1.0 refl)
no_form words r (step.Write chunk) h = r.chunk _ chunk h (λ none. none.1.1.1.1.0 refl)
no_form words r (step.Part chunk count) h = r.counted _ chunk count h (λ none. none.1.0 refl)
no_form words r (step.Purge chunk) h = r.chunk _ chunk h (λ none. none.1.1.1.1.1.0 refl)
no_form words r (step.Done chunk) h = r.chunk _ chunk h (λ none. none.1.1.1.1.1.1.0 refl)
no_form words r (step.Discard chunk) h = r.chunk _ chunk h (λ none. none.1.1.1.1.1.1.1.0 refl)
no_form words r (step.Oldest relay buffer) h = r.oldest relay buffer h
no_form words r (step.Restart relay) h = r.number _ relay h (λ none. none.1.1.1.1.0 refl)

-- two words are no step's
pub no_short : {A : Type 0} (name word : List ℕ) → ((n : ℕ) → IsNumber word n → IsNoneOf name number_words) → ((chunk : ChunkName) → IsChunkName word chunk → IsNoneOf name chunk_words) → NoStep A (name ∷ word ∷ [])
no_short name word numbers chunks = no_form _ (record {
  send = λ number tag texts e n is small entries zip. absurd (cc);
  number = λ other n h some. (let parts = number_fields name other (word ∷ []) (n ∷ []) h in some (subst (λ w. IsNoneOf w number_words) parts.0 (numbers n parts.1.0)));
  chunk = λ other chunk h some. (let parts = chunk_fields name other word [] chunk [] h in some (subst (λ w. IsNoneOf w chunk_words) parts.0 (chunks chunk parts.1)));
  counted = λ other chunk n h some. (let parts = chunk_fields name other word [] chunk (n ∷ []) h in absurd parts.2);
  append = λ d b s h. (let parts = number_fields name _ (word ∷ []) (d ∷ b ∷ s ∷ []) h in absurd parts.1.1);
  oldest = λ r b h. (let parts = number_fields name _ (word ∷ []) (r ∷ b ∷ []) h in absurd parts.1.1);
})

-- three words are no step's
pub no_middle : {A : Type 0} (name first second : List ℕ) → ¬ (name ≡ codes "send") → (name ≡ codes "oldest" → (r b : ℕ) → IsNumber first r → ¬ (IsNumber second b)) → ((chunk : ChunkName) → IsChunkName first chunk → (n : ℕ) → IsNumber second n → IsNoneOf name counted_words) → NoStep A (name ∷ first ∷ second ∷ [])
no_middle name first second other oldests counts = no_form _ (record {
  send = λ number tag texts e n is small entries zip. (let same : name ≡ codes "send" = cc in other same);
  number = λ word n h some. (let parts = number_fields name word (first ∷ second ∷ []) (n ∷ []) h in absurd parts.1.1);
  chunk = λ word chunk h some. (let parts = chunk_fields name word first (second ∷ []) chunk [] h in absurd parts.2);
  counted = λ word chunk n h some. (let parts = chunk_fields name word first (second ∷ []) chunk (n ∷ []) h in some (subst (λ w. IsNoneOf w counted_words) parts.0 (counts chunk parts.1 n parts.2.0)));
  append = λ d b s h. (let parts = number_fields name _ (first ∷ second ∷ []) (d ∷ b ∷ s ∷ []) h in absurd parts.1.1.1);
  oldest = λ r b h. (let parts = number_fields name _ (first ∷ second ∷ []) (r ∷ b ∷ []) h in oldests parts.0 r b parts.1.0 parts.1.1.0);
})

-- four words are no step's
pub no_long : {A : Type 0} (name first second third : List ℕ) → ¬ (name ≡ codes "send") → (name ≡ codes "append" → (d b s : ℕ) → IsNumber first d → IsNumber second b → ¬ (IsNumber third s)) → NoStep A (name ∷ first ∷ second ∷ third ∷ [])
no_long name first second third other appends = no_form _ (record {
  send = λ number tag texts e n is small entries zip. (let same : name ≡ codes "send" = cc in other same);
  number = λ word n h some. (let parts = number_fields name word (first ∷ second ∷ third ∷ []) (n ∷ []) h in absurd parts.1.1);
  chunk = λ word chunk h some. (let parts = chunk_fields name word first (second ∷ third ∷ []) chunk [] h in absurd parts.2);
  counted = λ word chunk n h some. (let parts = chunk_fields name word first (second ∷ third ∷ []) chunk (n ∷ []) h in absurd parts.2.1);
  append = λ d b s h. (let parts = number_fields name _ (first ∷ second ∷ third ∷ []) (d ∷ b ∷ s ∷ []) h in appends parts.0 d b s parts.1.0 parts.1.1.0 parts.1.1.1.0);
  oldest = λ r b h. (let parts = number_fields name _ (first ∷ second ∷ third ∷ []) (r ∷ b ∷ []) h in absurd parts.1.1.1);
})

-- as many numbers as there are words behind the first
counts_words : (name : List ℕ) (words : List (List ℕ)) (numbers : List ℕ) → AreNumbers name words numbers → length words ≡ 1 + length numbers
counts_words name words numbers h = let same = all_zip_length IsNumber h.0 numbers h.2 in let e : length words ≡ suc (length h.0) = ap length h.1 in omega (arith, same, e)

counts_chunk : (name : List ℕ) (words : List (List ℕ)) (chunk : ChunkName) (numbers : List ℕ) → AreOfChunk name words chunk numbers → length words ≡ 2 + length numbers
counts_chunk name words chunk numbers h = let same = all_zip_length IsNumber h.1 numbers h.4 in let e : length words ≡ suc (suc (length h.1)) = ap length h.2 in omega (arith, same, e)

-- so many words are no step's, where they aren't sent
no_such_length : {A : Type 0} (words : List (List ℕ)) → ¬ (length words ≡ 2) → ¬ (length words ≡ 3) → ¬ (length words ≡ 4)
    → ((rest : List (List ℕ)) → ¬ (words ≡ codes "send" ∷ rest)) → NoStep A words
no_such_length words two three four other = no_form _ (record {
  send = λ number tag texts e n is small entries zip. other (number ∷ tag ∷ texts) e;
  number = λ name n h some. two (counts_words name words (n ∷ []) h);
  chunk = λ name chunk h some. two (counts_chunk name words chunk [] h);
  counted = λ name chunk n h some. three (counts_chunk name words chunk (n ∷ []) h);
  append = λ d b s h. four (counts_words _ words (d ∷ b ∷ s ∷ []) h);
  oldest = λ r b h. three (counts_words _ words (r ∷ b ∷ []) h);
})

-- a word and so many others are no step's
pub no_other_length : {A : Type 0} (name : List ℕ) (fields : List (Bor (List ℕ))) → ¬ (length fields ≡ 1) → ¬ (length fields ≡ 2) → ¬ (length fields ≡ 3) → ¬ (name ≡ codes "send")
    → NoStep A (name ∷ map (λ (word : Bor (List ℕ)). word.now) fields)
no_other_length name fields one two three other =
    let same = length-map fields (λ (word : Bor (List ℕ)). word.now) in
    no_such_length _ (λ e. one (omega (arith, same, e))) (λ e. two (omega (arith, same, e))) (λ e. three (omega (arith, same, e)))
    (λ rest e. (let is : name ≡ codes "send" = cc in other is))
