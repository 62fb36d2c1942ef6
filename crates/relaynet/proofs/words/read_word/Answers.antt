use Rattle.std.proofs.Common.{◌∙◌, string_bytes, inl, inr, arith, rules}
use Rattle.relaynet.proofs.WordLists.{rest_of_two, rest_of_three, rest_of_four, rest_of_five, other_verb, no_verb, only_two, only_three, only_four, only_five}
use Rattle.relaynet.proofs.words.read_word.Goals.{then-words-lt2, in-len2+else-eq+else-eq-2, in-len3+else-eq-3, in-len4+else-eq-4, in-len5+else-eq-5, else-words-lt2+else-words-lt3+else-words-lt4+else-words-lt5+else-words-lt6}
use Rattle.relaynet.proofs.words.read_word.Goals as goal

pub returns-then-eq : goal.returns-then-eq
returns-then-eq c =
    rest_of_two string_bytes c.args.words.now c.word-item.result _ c.in-len2.len_at_least c.in-len2.len_below c.word-item.is (search rules)

pub returns-then-eq-2 : goal.returns-then-eq-2
returns-then-eq-2 c =
    rest_of_two string_bytes c.args.words.now c.word-item.result _ c.in-len2.len_at_least c.in-len2.len_below c.word-item.is (search rules)

pub returns-then-eq-3 : goal.returns-then-eq-3
returns-then-eq-3 c =
    rest_of_three string_bytes c.args.words.now c.word-item-then-words-lt4.result c.net-item.result _ _ c.in-len3.len_at_least c.in-len3.len_below
    c.word-item-then-words-lt4.is c.net-item.is (search rules) (search rules)

pub returns-then-eq-4 : goal.returns-then-eq-4
returns-then-eq-4 c =
    rest_of_four string_bytes c.args.words.now c.word-item-then-words-lt5.result c.net-item-then-words-lt5.result c.steps-item.result _ _ _ c.in-len4.len_at_least c.in-len4.len_below
    c.word-item-then-words-lt5.is c.net-item-then-words-lt5.is c.steps-item.is (search rules) (search rules) (search rules)

pub returns-then-eq-5 : goal.returns-then-eq-5
returns-then-eq-5 c =
    rest_of_five string_bytes c.args.words.now c.word-item-then-words-lt6.result c.conf-item.result c.number-item.result c.dir-item.result _ _ _ _ c.in-len5.len_at_least c.in-len5.len_below
    c.word-item-then-words-lt6.is c.conf-item.is c.number-item.is c.dir-item.is (search rules) (search rules) (search rules) (search rules)

pub returns : goal.returns
returns c =
    let words = c.args.words.now in
    elim c.if-words-lt2.branch [
      | then-words-lt2 w ↦ no_verb string_bytes words (inl (search rules))
      | in-len2+else-eq+else-eq-2 w ↦
          other_verb string_bytes words 2 w.word-item.result (omega arith) w.word-item.is
          (λ word count. only_two word (string_bytes w.word-item.result) count (λ h. cc (rw (w.as_str.ensures.value ∙ h) at w.if-eq.ensures)) (λ h. cc (rw (w.as_str-in-len2.ensures.value ∙ h) at w.if-eq-2.ensures)))
      | in-len3+else-eq-3 w ↦
          other_verb string_bytes words 3 w.word-item-then-words-lt4.result (omega arith) w.word-item-then-words-lt4.is
          (λ word count. only_three word (string_bytes w.word-item-then-words-lt4.result) count (λ h. cc (rw (w.as_str-in-len3.ensures.value ∙ h) at w.if-eq-3.ensures)))
      | in-len4+else-eq-4 w ↦
          other_verb string_bytes words 4 w.word-item-then-words-lt5.result (omega arith) w.word-item-then-words-lt5.is
          (λ word count. only_four word (string_bytes w.word-item-then-words-lt5.result) count (λ h. cc (rw (w.as_str-in-len4.ensures.value ∙ h) at w.if-eq-4.ensures)))
      | in-len5+else-eq-5 w ↦
          other_verb string_bytes words 5 w.word-item-then-words-lt6.result (omega arith) w.word-item-then-words-lt6.is
          (λ word count. only_five word (string_bytes w.word-item-then-words-lt6.result) count (λ h. cc (rw (w.as_str-in-len5.ensures.value ∙ h) at w.if-eq-5.ensures)))
      | else-words-lt2+else-words-lt3+else-words-lt4+else-words-lt5+else-words-lt6 w ↦ no_verb string_bytes words (inr (search rules))
    ]
