-- The steps that send, deliver and acknowledge messages keep what is known of a network whose
-- messages all lead to outputs that keep.
use Rattle.std.proofs.Common.{◌≡◌, ◌≢◌, ℕ, ◌<◌, ◌≤◌, Bool, true, false, List, [], ◌∷◌, ◌++◌, Some, None, slice_get, slice_set, refl, sym, ap, ◌∙◌, inl, inr, arith, length, Contains}
use Rattle.std.proofs.lemmas.Option.{same_Some}
use Rattle.std.proofs.lemmas.List.Elements.{Contains-append_cases}
use Rattle.custody_store.specs.Buffers.{appended_to}
use Rattle.custody_store.specs.Book.{Message, Delivery, Told, ended, newly_acknowledged}
use Rattle.custody_store.specs.declared.sender.Sender.{Sender}
use Rattle.custody_store.specs.declared.sender.Sender.TheVariants as sender
use Rattle.relay_net.specs.Addresses.{Address}
use Rattle.relay_net.specs.Network.{Network, entrance, address_of_client}
use Rattle.relay_net.specs.Ways.{HasLoop, table_at}
use Rattle.route_graph.specs.Ways.{HaveTag, IsLeaf}
use Rattle.custody_steps.specs.World.{World, with_buffer}
use Rattle.custody_steps.specs.Rules.{Allowed, effect}
use Rattle.custody_steps.specs.Steps.{CanBegin, CanAppend, CanAcknowledge, tag_of}
use Rattle.step_lines.specs.declared.step.Step.TheVariants as step
use Rattle.custody_store.proofs.Lists.{some_and}
use Rattle.loss_rules.proofs.Members.{map-contains}
use Rattle.relay_net.proofs.Growing.{only_in}
use Rattle.custody_steps.proofs.Keeping.{is_of}
use Rattle.custody_core.proofs.Borne.{IsBorne, borne_first}
use Rattle.custody_core.proofs.Serials.{and_some}
use Rattle.custody_core.proofs.Lists.{get-push, get-more, get-set, get-after_set}
use Rattle.custody_core.proofs.Safe.{Ranking, IsSafe}
use Rattle.custody_core.proofs.Ranked.{Labelling, LeadOn, IsSentFrom, ArePassedOn, IsToldSafe, IsKnown, IsKnownDelivery, IsRanked}
use Rattle.custody_core.proofs.AppendMoves.{append_ranked}
use Rattle.tag_pattern.specs.Parts.{most_tag_bytes}

-- Each message of the one list is in the other, from the same sender to the same address, with its
-- tag and its entries.
pub record IsMessageOf (messages : List Message) (number : ℕ) (old : Message) : Type 0 where
  pub message : Message
  pub there : slice_get messages number ≡ Some message
  pub sender : message.sender ≡ old.sender
  pub address : message.address ≡ old.address
  pub tag : message.tag ≡ old.tag
  pub entries : message.entries ≡ old.entries

abbrev pub Follow : List Message → List Message → Type 0
Follow old new = (number : ℕ) (message : Message) → slice_get old number ≡ Some message → IsMessageOf new number message

-- an entry that was acknowledged to a client
abbrev pub told_entry : ℕ → List ℕ → List ℕ → Told
told_entry client tag entry = record { client = client; event = record { tag = tag; entry = entry } }

module _ {A : Type 0} (net : Network A) (labelled : Labelling) (ranks : Ranking) (clock : ℕ) where
  -- the list of deliveries changed
  pub deliveries_ranked : (w : World) → IsRanked net labelled ranks clock w → (deliveries : List Delivery)
      → ((number : ℕ) (delivery : Delivery) → slice_get deliveries number ≡ Some delivery → IsKnownDelivery net ranks clock w.buffers labelled w.messages delivery) → IsRanked net labelled ranks clock (record w { deliveries = deliveries })
  deliveries_ranked w is deliveries each = record { below = is.below; chunks = is.chunks; queued = is.queued; messages = is.messages; deliveries = each; acknowledged = is.acknowledged }

  -- the list of messages changed
  messages_ranked : (w : World) → IsRanked net labelled ranks clock w → (messages : List Message) → Follow w.messages messages
      → ((number : ℕ) (message : Message) → slice_get messages number ≡ Some message → IsKnown net ranks clock w.buffers labelled message) → IsRanked net labelled ranks clock (record w { messages = messages })
  messages_ranked w is messages follow each = record {
    below = is.below;
    chunks = is.chunks;
    queued = is.queued;
    messages = each;
    deliveries = λ number delivery at. (let d = is.deliveries number delivery at in let m = follow delivery.message d.message d.there in record {
      message = m.message;
      there = m.there;
      enters = rw m.address d.enters;
      tag_is = rw (m.address, m.tag) d.tag_is;
      short = d.short;
      taken = d.taken;
      appended = λ buffer inside keeps. rw (m.sender, m.address, m.tag, m.entries) (d.appended buffer inside keeps);
    });
    acknowledged = is.acknowledged;
  }

  -- a message was sent
  pub pushed_ranked : (w : World) → IsRanked net labelled ranks clock w → (message : Message) → IsKnown net ranks clock w.buffers labelled message → IsRanked net labelled ranks clock (record w { messages = w.messages ++ message ∷ [] })
  pushed_ranked w is message known = messages_ranked w is (w.messages ++ message ∷ [])
      (λ number old at. record { message = old; there = get-more w.messages (message ∷ []) old number at; sender = refl; address = refl; tag = refl; entries = refl })
      (λ number m at. elim (get-push w.messages message m number at) [
        | inl old ↦ is.messages number m old
        | inr new ↦ rw new known
      ])

  -- a message was acknowledged, whose events are safe
  pub answered_ranked : (w : World) → IsRanked net labelled ranks clock w → (number : ℕ) (message : Message) → slice_get w.messages number ≡ Some message → ArePassedOn net ranks clock w.buffers message.sender message.address message.tag message.entries
      → IsRanked net labelled ranks clock (record w { messages = slice_set w.messages number (record message { acknowledged = true }) })
  answered_ranked w is number message at passed = messages_ranked w is (slice_set w.messages number (record message { acknowledged = true }))
      (λ k old there. elim (get-after_set w.messages (record message { acknowledged = true }) old number k there) [
        | inl h ↦ record { message = old; there = h; sender = refl; address = refl; tag = refl; entries = refl }
        | inr h ↦ (let same : message ≡ old = same_Some message old (sym at ∙ ap (slice_get w.messages) (sym h.0) ∙ there) in
            record { message = record message { acknowledged = true }; there = h.1; sender = ap (λ (m : Message). m.sender) same; address = ap (λ (m : Message). m.address) same; tag = ap (λ (m : Message). m.tag) same; entries = ap (λ (m : Message). m.entries) same })
      ])
      (λ k m there. elim (get-set w.messages (record message { acknowledged = true }) m number k there) [
        | inl old ↦ is.messages k m old
        | inr new ↦ (let known = is.messages number message at in rw new.1 (record { taken = known.taken; from = known.from; id = known.id; answered = λ yes. passed }))
      ])

  -- events were acknowledged to clients, which are safe
  pub told_ranked : (w : World) → IsRanked net labelled ranks clock w → (more : List Told) → ((told : Told) → Contains more told → IsToldSafe net ranks clock w.buffers told) → IsRanked net labelled ranks clock (record w { acknowledged = w.acknowledged ++ more })
  told_ranked w is more each = record {
    below = is.below;
    chunks = is.chunks;
    queued = is.queued;
    messages = is.messages;
    deliveries = is.deliveries;
    acknowledged = λ told inside. elim (Contains-append_cases w.acknowledged more told inside) [
      | inl old ↦ is.acknowledged told old
      | inr new ↦ each told new
    ];
  }

  -- what becomes acknowledged to a client is safe
  pub newly_safe : (w : World) (s : Sender) (address : Address) (before : Bool) (tag : List ℕ) (entries : List (List ℕ)) → IsSentFrom net s address → ArePassedOn net ranks clock w.buffers s address tag entries
      → (told : Told) → Contains (newly_acknowledged s before tag entries) told → IsToldSafe net ranks clock w.buffers told
  newly_safe w (sender.Client client) address false tag entries from passed told inside =
      let e = map-contains (λ entry. told_entry client tag entry) entries told inside in
      rw (← e.2) (and_some (slice_get net.clients client) (λ found. IsSafe net ranks w.buffers 0 (record { address = address_of_client net found; tag = tag; entry = e.0 })) from.0 from.1 (rw from.2 at (passed tt e.0 e.1)))
  newly_safe w (sender.Client client) address true tag entries from passed told inside = absurd (let less = inside.1 in omega arith)
  newly_safe w (sender.Chunk place buffer serial) address before tag entries from passed told inside = absurd (let less = inside.1 in omega arith)

-- a delivery that ended is known all the same
pub ended_known : {A : Type 0} (net : Network A) (labelled : Labelling) (ranks : Ranking) (clock : ℕ) (w : World) (delivery : Delivery) → IsKnownDelivery net ranks clock w.buffers labelled w.messages delivery
    → IsKnownDelivery net ranks clock w.buffers labelled w.messages (ended delivery)
ended_known net labelled ranks clock w delivery known = record { message = known.message; there = known.there; enters = known.enters; tag_is = known.tag_is; short = known.short; taken = known.taken; appended = known.appended }

module _ {A : Type 0} (net : Network A) (labelled : Labelling) (leads : LeadOn net labelled) (ranks : Ranking) (clock : ℕ) (w : World) (is : IsRanked net labelled ranks clock w) where
  pub sent : (client : ℕ) (tag : List ℕ) (entries : _) → Allowed net w (step.Send client tag entries) → IsRanked net labelled ranks clock (effect net w (step.Send client tag entries))
  sent client tag entries h =
      let f = some_and (slice_get net.clients client) (λ found. HaveTag found.patterns.items tag) h in
      rw f.1 (pushed_ranked net labelled ranks clock w is _ (record {
        taken = leads.clients client f.0 f.1 tag f.2;
        from = (f.0, f.1, refl);
        id = tt;
        answered = λ yes. absurd (cc);
      }))

  pub begun : (number : ℕ) → Allowed net w (step.Begin number) → IsRanked net labelled ranks clock (effect net w (step.Begin number))
  begun number h =
      let m = some_and (slice_get w.messages number) (CanBegin net) h in
      let at = some_and (entrance net m.0.address) (λ at. labelled at (tag_of net m.0)) (is.messages number m.0 m.1).taken in
      let may = some_and (entrance net m.0.address) (λ at. (length (tag_of net m.0) ≤ most_tag_bytes) × ¬ HasLoop net at (tag_of net m.0) m.0.entries) m.2 in
      let opened : Delivery = record { message = number; entrance = at.0; tag = tag_of net m.0; appended = []; is_open = true } in
      rw m.1 (rw at.1 (deliveries_ranked net labelled ranks clock w is (w.deliveries ++ opened ∷ []) (λ k d there. elim (get-push w.deliveries opened d k there) [
        | inl old ↦ is.deliveries k d old
        | inr new ↦ rw new (record { message = m.0; there = m.1; enters = at.1; tag_is = refl; short = may.2.0; taken = at.2; appended = λ buffer inside. absurd (let less : inside.0 < 0 = inside.1 in omega arith) })
      ])))

  pub abandoned : (number : ℕ) → Allowed net w (step.Abandon number) → IsRanked net labelled ranks clock (effect net w (step.Abandon number))
  abandoned number h =
      let d = some_and (slice_get w.deliveries number) (λ d. d.is_open ≡ true) h in
      rw d.1 (deliveries_ranked net labelled ranks clock w is _ (λ k x there. elim (get-set w.deliveries (ended d.0) x number k there) [
        | inl old ↦ is.deliveries k x old
        | inr new ↦ rw new.1 (ended_known net labelled ranks clock w d.0 (is.deliveries number d.0 d.1))
      ]))

  -- each message's address is that of a source
  pub never_foreign : (number : ℕ) → Allowed net w (step.Foreign number) → ⊥
  never_foreign number h =
      let m = some_and (slice_get w.messages number) (λ m. entrance net m.address ≡ None) h in
      let at = some_and (entrance net m.0.address) (λ at. labelled at (tag_of net m.0)) (is.messages number m.0 m.1).taken in
      let g = sym m.2 ∙ at.1 in
      cc

  -- the events of a delivery's message bear its tag in each leaf
  bears_there : (number buffer : ℕ) (d : Delivery) (m : Message) → slice_get w.deliveries number ≡ Some d → slice_get w.messages d.message ≡ Some m → IsLeaf (table_at net d.entrance.relay) d.tag d.entrance.scope buffer
      → IsBorne net m.address m.tag d.entrance.relay buffer d.tag
  bears_there number buffer d m at there leaf =
      let known = is.deliveries number d at in
      let same : known.message ≡ m = same_Some known.message m (sym known.there ∙ there) in
      borne_first net m.address m.tag d.entrance buffer d.tag (rw same at known.enters) (rw same at known.tag_is) known.short (record { ends = leads.ends d.entrance d.tag known.taken; leaf = leaf })

  appended_at : (number buffer serial : ℕ) (d : Delivery) (m : Message) → slice_get w.deliveries number ≡ Some d → slice_get w.messages d.message ≡ Some m → CanAppend net w d m buffer serial
      → IsRanked net labelled ranks clock (record w {
        buffers = (with_buffer w d.entrance.relay buffer (appended_to d.tag m.entries serial)).buffers;
        deliveries = slice_set w.deliveries number (record d { appended = d.appended ++ buffer ∷ [] });
      })
  appended_at number buffer serial d m at there can =
      let a = append_ranked net labelled ranks clock w is d.entrance.relay buffer d.tag m.entries serial (leads.sends d.entrance d.tag (is.deliveries number d at).taken buffer can.is_leaf.1) can.can_take in
      deliveries_ranked net labelled ranks clock (with_buffer w d.entrance.relay buffer (appended_to d.tag m.entries serial)) a.ranked _
      (λ k x e. elim (get-set w.deliveries (record d { appended = d.appended ++ buffer ∷ [] }) x number k e) [
        | inl old ↦ a.ranked.deliveries k x old
        | inr new ↦ (let known = a.ranked.deliveries number d at in
            let same : known.message ≡ m = same_Some known.message m (sym known.there ∙ there) in
            rw new.1 (record {
              message = known.message;
              there = known.there;
              enters = known.enters;
              tag_is = known.tag_is;
              short = known.short;
              taken = known.taken;
              appended = λ b inside keeps. elim (Contains-append_cases d.appended (buffer ∷ []) b inside) [
                | inl old ↦ known.appended b old keeps
                | inr last ↦ (let b_is = only_in buffer b last in λ counts entry among. rw same (a.safe (rw b_is at keeps) _ (record { address = m.address; tag = m.tag; entry = entry }) (bears_there number buffer d m at there can.is_leaf.1) (rw same at among)))
              ];
            }))
      ])

  pub appended : (number buffer serial : ℕ) → Allowed net w (step.Append number buffer serial) → IsRanked net labelled ranks clock (effect net w (step.Append number buffer serial))
  appended number buffer serial h =
      let o = is_of w number (λ d m. CanAppend net w d m buffer serial) h in
      rw o.delivery_is (rw o.message_is (appended_at number buffer serial o.delivery o.message o.delivery_is o.message_is o.holds))

  -- The events of a message whose delivery was appended to each leaf are safe: one of the leaves
  -- keeps.
  pub whole_safe : (number : ℕ) (d : Delivery) (m : Message) → slice_get w.deliveries number ≡ Some d → slice_get w.messages d.message ≡ Some m → CanAcknowledge net d m → ArePassedOn net ranks clock w.buffers m.sender m.address m.tag m.entries
  whole_safe number d m at there can counts entry inside =
      let known = is.deliveries number d at in
      let leaf = leads.keeps d.entrance d.tag known.taken in
      let same : known.message ≡ m = same_Some known.message m (sym known.there ∙ there) in
      let some : m.entries ≢ [] = λ none. (let less = inside.1 in let z : length m.entries ≡ 0 = ap length none in omega arith) in
      let passed : ArePassedOn net ranks clock w.buffers m.sender m.address m.tag m.entries = rw same at (known.appended leaf.0 (can.is_whole leaf.0 (some, leaf.1)) leaf.2) in
      passed counts entry inside

  pub acknowledged : (number : ℕ) → Allowed net w (step.Ack number) → IsRanked net labelled ranks clock (effect net w (step.Ack number))
  acknowledged number h =
      let o = is_of w number (CanAcknowledge net) h in
      let passed = whole_safe number o.delivery o.message o.delivery_is o.message_is o.holds in
      let more = newly_acknowledged o.message.sender o.message.acknowledged o.message.tag o.message.entries in
      let marked : World = record w { messages = slice_set w.messages o.delivery.message (record o.message { acknowledged = true }) } in
      let after : World = record marked { acknowledged = w.acknowledged ++ more } in
      let answered : IsRanked net labelled ranks clock marked = answered_ranked net labelled ranks clock w is o.delivery.message o.message o.message_is passed in
      let told : IsRanked net labelled ranks clock after = told_ranked net labelled ranks clock marked answered more
      (newly_safe net labelled ranks clock w o.message.sender o.message.address o.message.acknowledged o.message.tag o.message.entries (is.messages o.delivery.message o.message o.message_is).from passed) in
      rw o.delivery_is (rw o.message_is (deliveries_ranked net labelled ranks clock after told (slice_set w.deliveries number (ended o.delivery))
      (λ k x e. elim (get-set w.deliveries (ended o.delivery) x number k e) [
        | inl old ↦ told.deliveries k x old
        | inr new ↦ rw new.1 (ended_known net labelled ranks clock after o.delivery (told.deliveries number o.delivery o.delivery_is))
      ])))
