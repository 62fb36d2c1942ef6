-- That words are one step's at most.
use Rattle.std.proofs.Common.{◌≡◌, ℕ, ◌==◌, ◌||◌, not, Bool, true, false, List, [], ◌∷◌, ◌++◌, map, take, drop, get_or, slice_get, Option, Some, Ok, if◌then◌else◌, codes, refl, sym, ap, subst, ◌∙◌}
use Rattle.std.specs.List.{AllZip, list_any, slice_split}
use Rattle.std.specs.Str.{bytes_eq}
use Rattle.conf_values.specs.Numbers.{number_of}
use Rattle.hex.specs.Hex.{decode_of}
use Rattle.step_lines.specs.declared.step.ChunkName.{ChunkName}
use Rattle.step_lines.specs.declared.step.Step.{Step}
use Rattle.step_lines.specs.declared.step.Step.TheVariants as step
use Rattle.step_lines.specs.StepLines.{IsNumber, AreNumbers, AreOfChunk, IsStepOf, SaysNothing, chunk_words, counted_words}
use Rattle.step_lines.specs.Laws.{Content, numbered, numbers_of, content}

-- the word spells the entry in hex
abbrev IsHexOf : List ℕ → List ℕ → Type 0
IsHexOf word entry = decode_of word ≡ Ok entry

abbrev is_send : List ℕ → Bool
is_send name = bytes_eq name (codes "send")

abbrev has_chunk : List ℕ → Bool
has_chunk name = list_any (bytes_eq name) chunk_words || list_any (bytes_eq name) counted_words

abbrev first_cut : List (List ℕ) → List (List ℕ)
first_cut [] = []
first_cut (word ∷ more) = slice_split (λ b. b == 47) word ++ more

-- the words that spell numbers
abbrev number_fields : List ℕ → List (List ℕ) → List (List ℕ)
number_fields name fields = if is_send name then take 1 fields else (if has_chunk name then first_cut fields else fields)

abbrev numbers_in : List (List ℕ) → List (Option ℕ)
numbers_in [] = []
numbers_in (name ∷ fields) = map number_of (number_fields name fields)

abbrev word_in : List (List ℕ) → List ℕ
word_in [] = []
word_in (name ∷ fields) = name

abbrev tag_in : List (List ℕ) → List ℕ
tag_in [] = []
tag_in (name ∷ fields) = if is_send name then get_or fields 1 [] else []

abbrev texts_in : List (List ℕ) → List (List ℕ)
texts_in [] = []
texts_in (name ∷ fields) = if is_send name then drop 2 fields else []

-- what the words hold
record Reading (words : List (List ℕ)) (c : Content) : Type 0 where
  word : word_in words ≡ c.word
  numbers : numbers_in words ≡ map Some c.numbers
  tag : tag_in words ≡ c.tag
  entries : AllZip IsHexOf (texts_in words) c.entries

-- words that spell numbers, read
all_read : (words : List (List ℕ)) (numbers : List ℕ) → AllZip IsNumber words numbers → map number_of words ≡ map Some numbers
all_read [] [] h = refl
all_read [] (n ∷ numbers) h = absurd h
all_read (word ∷ words) [] h = absurd h
all_read (word ∷ words) (n ∷ numbers) h = let first = h.0 in let rest = all_read words numbers h.1 in cc

all_zip_append : (words more : List (List ℕ)) (numbers others : List ℕ) → AllZip IsNumber words numbers → AllZip IsNumber more others → AllZip IsNumber (words ++ more) (numbers ++ others)
all_zip_append [] more [] others h k = k
all_zip_append [] more (n ∷ numbers) others h k = absurd h
all_zip_append (word ∷ words) more [] others h k = absurd h
all_zip_append (word ∷ words) more (n ∷ numbers) others h k = (h.0, all_zip_append words more numbers others h.1 k)

numbers_line : (name : List ℕ) (words : List (List ℕ)) (numbers : List ℕ) → AreNumbers name words numbers → is_send name ≡ false → has_chunk name ≡ false → Reading words (numbered name numbers)
numbers_line name words numbers h no_send no_chunk = subst (λ w. Reading w (numbered name numbers)) (sym h.1) (record {
  word = refl;
  numbers = rw (no_send, no_chunk) (all_read h.0 numbers h.2);
  tag = rw no_send;
  entries = rw no_send tt;
})

chunk_line : (name : List ℕ) (words : List (List ℕ)) (chunk : ChunkName) (numbers : List ℕ) → AreOfChunk name words chunk numbers → is_send name ≡ false → has_chunk name ≡ true → Reading words (numbered name (numbers_of chunk ++ numbers))
chunk_line name words chunk numbers h no_send some_chunk = subst (λ w. Reading w (numbered name (numbers_of chunk ++ numbers))) (sym h.2) (record {
  word = refl;
  numbers = rw (no_send, some_chunk) (all_read (slice_split (λ b. b == 47) h.0 ++ h.1) (numbers_of chunk ++ numbers) (all_zip_append (slice_split (λ b. b == 47) h.0) h.1 (numbers_of chunk) numbers h.3 h.4));
  tag = rw no_send;
  entries = rw no_send tt;
})

reading : {A : Type 0} (words : List (List ℕ)) (s : Step A) → IsStepOf words s → Reading words (content s)
reading {A} words (step.Send client tag entries) h = subst (λ w. Reading w (content {A = A} (step.Send client tag entries))) (sym h.2) (record {
  word = refl;
  numbers = ap (λ m. m ∷ []) h.3;
  tag = refl;
  entries = h.5;
})
reading words (step.Begin message) h = numbers_line _ words _ h refl refl
reading words (step.Append delivery buffer serial) h = numbers_line _ words _ h refl refl
reading words (step.Ack delivery) h = numbers_line _ words _ h refl refl
reading words (step.Abandon delivery) h = numbers_line _ words _ h refl refl
reading words (step.Foreign message) h = numbers_line _ words _ h refl refl
reading words (step.Enqueue chunk) h = chunk_line _ words chunk [] h refl refl
reading words (step.Claim chunk) h = chunk_line _ words chunk [] h refl refl
reading words (step.Back chunk) h = chunk_line _ words chunk [] h refl refl
reading words (step.Forward chunk server) h = chunk_line _ words chunk (server ∷ []) h refl refl
reading words (step.Seen chunk) h = chunk_line _ words chunk [] h refl refl
reading words (step.Write chunk) h = chunk_line _ words chunk [] h refl refl
reading words (step.Part chunk count) h = chunk_line _ words chunk (count ∷ []) h refl refl
reading words (step.Purge chunk) h = chunk_line _ words chunk [] h refl refl
reading words (step.Done chunk) h = chunk_line _ words chunk [] h refl refl
reading words (step.Discard chunk) h = chunk_line _ words chunk [] h refl refl
reading words (step.Oldest relay buffer) h = numbers_line _ words _ h refl refl
reading words (step.Restart relay) h = numbers_line _ words _ h refl refl

same_numbers : (xs ys : List ℕ) → map Some xs ≡ map Some ys → xs ≡ ys
same_numbers [] [] e = refl
same_numbers [] (y ∷ ys) e = cc
same_numbers (x ∷ xs) [] e = cc
same_numbers (x ∷ xs) (y ∷ ys) e = let rest : map Some xs ≡ map Some ys = cc in let same = same_numbers xs ys rest in cc

same_entries : (words xs ys : List (List ℕ)) → AllZip IsHexOf words xs → AllZip IsHexOf words ys → xs ≡ ys
same_entries [] [] [] h k = refl
same_entries [] [] (y ∷ ys) h k = absurd k
same_entries [] (x ∷ xs) ys h k = absurd h
same_entries (w ∷ words) [] ys h k = absurd h
same_entries (w ∷ words) (x ∷ xs) [] h k = absurd k
same_entries (w ∷ words) (x ∷ xs) (y ∷ ys) h k = let first = sym h.0 ∙ k.0 in let same = same_entries words xs ys h.1 k.1 in cc

abbrev content_of : List ℕ → List ℕ → List ℕ → List (List ℕ) → Content
content_of word numbers tag entries = record { word = word; numbers = numbers; tag = tag; entries = entries }

-- words hold one thing
one_content : (words : List (List ℕ)) (c d : Content) → Reading words c → Reading words d → c ≡ d
one_content words c d r q =
    let word_same : c.word ≡ d.word = sym r.word ∙ q.word in
    let numbers_same : c.numbers ≡ d.numbers = same_numbers c.numbers d.numbers (sym r.numbers ∙ q.numbers) in
    let tag_same : c.tag ≡ d.tag = sym r.tag ∙ q.tag in
    let entries_same : c.entries ≡ d.entries = same_entries (texts_in words) c.entries d.entries r.entries q.entries in
    ap (λ (x : List ℕ). content_of x c.numbers c.tag c.entries) word_same
    ∙ ap (λ (x : List ℕ). content_of d.word x c.tag c.entries) numbers_same
    ∙ ap (λ (x : List ℕ). content_of d.word d.numbers x c.entries) tag_same
    ∙ ap (λ (x : List (List ℕ)). content_of d.word d.numbers d.tag x) entries_same

-- two steps of the same words hold the same
pub one_step : {A : Type 0} (words : List (List ℕ)) (a b : Step A) → IsStepOf words a → IsStepOf words b → content a ≡ content b
one_step words a b h k = one_content words (content a) (content b) (reading words a h) (reading words b k)

-- a word that doesn't begin with `#`
abbrev speaks : List ℕ → Bool
speaks [] = false
speaks (b ∷ rest) = not (b == 35)

steps_speak : {A : Type 0} (s : Step A) → speaks (content s).word ≡ true
steps_speak (step.Send client tag entries) = refl
steps_speak (step.Begin message) = refl
steps_speak (step.Append delivery buffer serial) = refl
steps_speak (step.Ack delivery) = refl
steps_speak (step.Abandon delivery) = refl
steps_speak (step.Foreign message) = refl
steps_speak (step.Enqueue chunk) = refl
steps_speak (step.Claim chunk) = refl
steps_speak (step.Back chunk) = refl
steps_speak (step.Forward chunk server) = refl
steps_speak (step.Seen chunk) = refl
steps_speak (step.Write chunk) = refl
steps_speak (step.Part chunk count) = refl
steps_speak (step.Purge chunk) = refl
steps_speak (step.Done chunk) = refl
steps_speak (step.Discard chunk) = refl
steps_speak (step.Oldest relay buffer) = refl
steps_speak (step.Restart relay) = refl

marked : (word : List ℕ) → slice_get word 0 ≡ Some 35 → speaks word ≡ false
marked [] e = refl
marked (b ∷ rest) e = let same : b ≡ 35 = cc in rw same

silent : (words : List (List ℕ)) → SaysNothing words → speaks (word_in words) ≡ false
silent [] h = refl
silent (word ∷ words) h = marked word h

-- words that say nothing are no step's
pub no_step_too : {A : Type 0} (words : List (List ℕ)) (s : Step A) → SaysNothing words → ¬ (IsStepOf words s)
no_step_too words s h k =
    let r = reading words s k in
    let loud = steps_speak s in
    let quiet : speaks (content s).word ≡ false = subst (λ w. speaks w ≡ false) r.word (silent words h) in
    absurd (cc)
