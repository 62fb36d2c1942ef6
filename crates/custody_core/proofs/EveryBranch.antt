-- After every list of steps each branch keeps what was acknowledged to a client, in a network in
-- which each leaf of each labelled tag's way keeps.
use Rattle.std.proofs.Common.{◌≡◌, ◌≢◌, ℕ, suc, ◌+◌, ◌≤◌, Bool, true, false, List, [], ◌∷◌, ◌++◌, length, Some, get_or, slice_get, slice_set, refl, sym, ap, subst, ◌∙◌, inl, inr, arith, Contains}
use Rattle.std.proofs.lemmas.Option.{same_Some}
use Rattle.std.proofs.lemmas.List.Elements.{Contains-append_cases, All-contains_itself}
use Rattle.custody_store.specs.Buffers.{appended_to}
use Rattle.custody_store.specs.Book.{Message, Delivery, Told, newly_acknowledged}
use Rattle.custody_store.specs.declared.sender.Sender.{Sender}
use Rattle.custody_store.specs.declared.sender.Sender.TheVariants as sender
use Rattle.relay_net.specs.Addresses.{Address}
use Rattle.relay_net.specs.Network.{Network, entrance, tag_at, address_of_client}
use Rattle.relay_net.specs.declared.address.Entrance.{Entrance}
use Rattle.relay_net.specs.Routed.{ComesTo}
use Rattle.relay_net.proofs.Growing.{only_in}
use Rattle.step_lines.specs.declared.step.Step.{Step}
use Rattle.step_lines.specs.declared.step.Step.TheVariants as step
use Rattle.custody_store.specs.Branches.{EachKeeps}
use Rattle.custody_store.proofs.Lists.{some_and}
use Rattle.custody_steps.specs.World.{World, initial_world, with_buffer}
use Rattle.custody_steps.specs.Rules.{Allowed, effect}
use Rattle.custody_steps.specs.Steps.{Steps, CanAppend, CanAcknowledge}
use Rattle.custody_steps.proofs.Keeping.{is_of}
use Rattle.loss_rules.proofs.Members.{map-contains}
use Rattle.custody_core.specs.Custody.{EachBranchKeeps}
use Rattle.custody_core.proofs.Serials.{and_some}
use Rattle.custody_core.proofs.Lists.{get-set}
use Rattle.custody_core.proofs.Safe.{Buffers, Ranking}
use Rattle.custody_core.proofs.Ranked.{Labelling, LeadOn, IsSentFrom, Counts, rank_of, IsRanked}
use Rattle.custody_core.proofs.AppendMoves.{append_here, append_ranked}
use Rattle.custody_core.proofs.Sendings.{told_entry, answered_ranked, told_ranked, newly_safe, whole_safe, never_foreign}
use Rattle.custody_core.proofs.EveryNetwork.{IsTimed, AreTimed, are_timed, is_due, step_keeps, opening_kept}
use Rattle.custody_core.proofs.Timing.{rank_in}
use Rattle.custody_core.proofs.Along.{KeepsFrom, EachFrom, AnsweredStay, moved, each_along}
use Rattle.custody_core.proofs.AlongRanked.{ArePassedAlong, IsToldAlong, IsEach, ids_stay}
use Rattle.custody_core.proofs.AlongMoves.{same_moves, held_here, append_each}
use Rattle.custody_core.proofs.EachStep.{LeavesKeep, old_delivery, deliveries_each, ended_each, stays_answered, answered_each, told_each, claimed_each, given_back_each, purged_each, done_each, discarded_each, enqueued_each, seen_each, parted_each, oldest_each, sent_each, begun_each, abandoned_each, written_each, forwarded_each, restarted_each}

-- what becomes acknowledged to a client is kept along each branch
newly_along : {A : Type 0} (net : Network A) (ranks : Ranking) (buffers : Buffers) (messages : List Message) (s : Sender) (address : Address) (before : Bool) (tag : List ℕ) (entries : List (List ℕ)) → IsSentFrom net s address
    → (Counts net s → (entry : List ℕ) → Contains entries entry → EachFrom net ranks buffers messages (rank_of ranks s) address tag entry) → (told : Told) → Contains (newly_acknowledged s before tag entries) told → IsToldAlong net ranks buffers messages told
newly_along net ranks buffers messages (sender.Client client) address false tag entries from passed told inside =
    let e = map-contains (λ entry. told_entry client tag entry) entries told inside in
    rw (← e.2) (and_some (slice_get net.clients client) (λ found. EachFrom net ranks buffers messages 0 (address_of_client net found) tag e.0) from.0 from.1 (rw from.2 at (passed tt e.0 e.1)))
newly_along net ranks buffers messages (sender.Client client) address true tag entries from passed told inside = absurd (let less = inside.1 in omega arith)
newly_along net ranks buffers messages (sender.Chunk place buffer serial) address before tag entries from passed told inside = absurd (let less = inside.1 in omega arith)

module _ {A : Type 0} (net : Network A) (labelled : Labelling) (leads : LeadOn net labelled) (leaves : LeavesKeep net labelled) where
  module _ (ranks : Ranking) (clock : ℕ) (w : World) (is : IsRanked net labelled ranks clock w) (each : IsEach net ranks w) where
    -- An open delivery was appended to a leaf.
    appended_at : (number buffer serial : ℕ) (d : Delivery) (m : Message) → slice_get w.deliveries number ≡ Some d → slice_get w.messages d.message ≡ Some m → CanAppend net w d m buffer serial
        → IsEach net ranks (record w {
          buffers = (with_buffer w d.entrance.relay buffer (appended_to d.tag m.entries serial)).buffers;
          deliveries = slice_set w.deliveries number (record d { appended = d.appended ++ buffer ∷ [] });
        })
    appended_at number buffer serial d m at there can =
        let taken = (is.deliveries number d at).taken in
        let sends = leads.sends d.entrance d.tag taken buffer can.is_leaf.1 in
        let keeps = leaves d.entrance d.tag taken buffer can.is_leaf.1 in
        let change = appended_to d.tag m.entries serial in
        let v = with_buffer w d.entrance.relay buffer change in
        let ranked : IsRanked net labelled ranks clock v = (append_ranked net labelled ranks clock w is d.entrance.relay buffer d.tag m.entries serial sends can.can_take).ranked in
        let each_then : IsEach net ranks v = append_each net labelled ranks clock w is each d.entrance.relay buffer d.tag m.entries serial sends can.can_take in
        deliveries_each net labelled ranks clock v ranked each_then (slice_set w.deliveries number (record d { appended = d.appended ++ buffer ∷ [] }))
        (λ k x e found is_found b inside. elim (get-set w.deliveries (record d { appended = d.appended ++ buffer ∷ [] }) x number k e) [
          | inl old ↦ inl (old_delivery net labelled ranks clock v ranked each_then k x old found is_found b inside)
          | inr new ↦ (let is_d : slice_get w.messages d.message ≡ Some found = subst (λ (y : Delivery). slice_get w.messages y.message ≡ Some found) new.1 is_found in
              let same : m ≡ found = same_Some m found (sym there ∙ is_d) in
              let inside_d : Contains (d.appended ++ buffer ∷ []) b = subst (λ (y : Delivery). Contains y.appended b) new.1 inside in
              elim (Contains-append_cases d.appended (buffer ∷ []) b inside_d) [
                | inl before ↦ inl (rw new.1 (old_delivery net labelled ranks clock v ranked each_then number d at found is_d b before))
                | inr last ↦ (let b_is = only_in buffer b last in
                    inr (rw (new.1, b_is) (λ counts entry among. held_here net labelled ranks clock w is ranks 0 d.entrance.relay buffer change (λ p q other s. refl) entry (rank_of ranks found.sender) d.tag keeps
                    (append_here net labelled ranks clock w is d.entrance.relay buffer d.tag m.entries serial sends can.can_take (rank_of ranks found.sender) entry (rw (← same) at among)))))
              ])
        ])

    pub appended_each : (number buffer serial : ℕ) → Allowed net w (step.Append number buffer serial) → IsEach net ranks (effect net w (step.Append number buffer serial))
    appended_each number buffer serial h =
        let o = is_of w number (λ d m. CanAppend net w d m buffer serial) h in
        rw o.delivery_is (rw o.message_is (appended_at number buffer serial o.delivery o.message o.delivery_is o.message_is o.holds))

    sender_below : (number : ℕ) (m : Message) (s : Sender) → slice_get w.messages number ≡ Some m → m.sender ≡ s → Counts net s → rank_of ranks s ≤ clock
    sender_below number m (sender.Client client) at from counts = omega arith
    sender_below number m (sender.Chunk p b s) at from counts = let less = ids_stay net labelled ranks clock w is number m p b s at from counts in omega (arith, less)

    -- The events of a message whose delivery was appended to each leaf are kept by each buffer that
    -- they come to.
    whole_along : (number : ℕ) (d : Delivery) (m : Message) → slice_get w.deliveries number ≡ Some d → slice_get w.messages d.message ≡ Some m → CanAcknowledge net d m
        → (messages : List Message) → AnsweredStay w.messages messages → ArePassedAlong net ranks w.buffers messages m
    whole_along number d m at there can messages stay counts entry inside =
        let known = is.deliveries number d at in
        let leaf = leads.keeps d.entrance d.tag known.taken in
        let same : known.message ≡ m = same_Some known.message m (sym known.there ∙ there) in
        let enters : entrance net m.address ≡ Some d.entrance = rw same at known.enters in
        let tag_is : d.tag ≡ tag_at net m.address m.tag = rw same at known.tag_is in
        let some : m.entries ≢ [] = λ none. (let less = inside.1 in let z : length m.entries ≡ 0 = ap length none in omega arith) in
        let below = sender_below d.message m m.sender there refl counts in
        record {
          place = d.entrance.relay;
          buffer = leaf.0;
          borne = d.tag;
          leaf = record { at = d.entrance; enters = enters; place_is = refl; borne_is = tag_is; short = known.short; comes = record { ends = leads.ends d.entrance d.tag known.taken; leaf = leaf.1 } };
          each = λ p b t r. (let at_is : r.at ≡ d.entrance = same_Some r.at d.entrance (sym r.enters ∙ enters) in
              let t_is : t ≡ d.tag = r.borne_is ∙ sym tag_is in
              let comes : ComesTo net d.entrance d.tag b = subst (λ (x : Entrance). ComesTo net x d.tag b) at_is (subst (λ (y : List ℕ). ComesTo net r.at y b) t_is r.comes) in
              let kept = each.deliveries number d at m there b (can.is_whole b (some, comes.leaf)) counts entry inside in
              let went = moved net ranks ranks 0 clock w.buffers w.buffers w.messages messages (same_moves net labelled ranks clock w is messages stay) (omega arith) below kept in
              let p_is : p ≡ d.entrance.relay = r.place_is ∙ ap (λ (x : Entrance). x.relay) at_is in
              subst (λ q. KeepsFrom net ranks w.buffers messages entry (rank_of ranks m.sender) q b t) (sym p_is) (subst (λ (y : List ℕ). KeepsFrom net ranks w.buffers messages entry (rank_of ranks m.sender) d.entrance.relay b y) (sym t_is) went));
        }

    pub acknowledged_each : (number : ℕ) → Allowed net w (step.Ack number) → IsEach net ranks (effect net w (step.Ack number))
    acknowledged_each number h =
        let o = is_of w number (CanAcknowledge net) h in
        let passed = whole_along number o.delivery o.message o.delivery_is o.message_is o.holds in
        let safe = whole_safe net labelled leads ranks clock w is number o.delivery o.message o.delivery_is o.message_is o.holds in
        let from = (is.messages o.delivery.message o.message o.message_is).from in
        let more = newly_acknowledged o.message.sender o.message.acknowledged o.message.tag o.message.entries in
        let marked : World = record w { messages = slice_set w.messages o.delivery.message (record o.message { acknowledged = true }) } in
        let after : World = record marked { acknowledged = w.acknowledged ++ more } in
        let marked_ranked : IsRanked net labelled ranks clock marked = answered_ranked net labelled ranks clock w is o.delivery.message o.message o.message_is safe in
        let marked_each : IsEach net ranks marked = answered_each net labelled ranks clock w is each o.delivery.message o.message o.message_is passed in
        let after_ranked : IsRanked net labelled ranks clock after = told_ranked net labelled ranks clock marked marked_ranked more
        (newly_safe net labelled ranks clock w o.message.sender o.message.address o.message.acknowledged o.message.tag o.message.entries from safe) in
        let after_each : IsEach net ranks after = told_each net labelled ranks clock marked marked_ranked marked_each more
        (newly_along net ranks w.buffers marked.messages o.message.sender o.message.address o.message.acknowledged o.message.tag o.message.entries from
        (passed marked.messages (stays_answered net labelled ranks clock w is each o.delivery.message o.message o.message_is))) in
        rw o.delivery_is (rw o.message_is (ended_each net labelled ranks clock after after_ranked after_each number o.delivery o.delivery_is))

  module _ (ranks : Ranking) where
    step_each : (clock : ℕ) (w : World) (next : Step A) → IsTimed net ranks clock next → IsRanked net labelled ranks clock w → IsEach net ranks w → Allowed net w next → IsEach net ranks (effect net w next)
    step_each clock w (step.Send client tag entries) timed is each h = sent_each net labelled ranks clock w is each client tag entries h
    step_each clock w (step.Begin message) timed is each h = begun_each net labelled ranks clock w is each message h
    step_each clock w (step.Append delivery buffer serial) timed is each h = appended_each ranks clock w is each delivery buffer serial h
    step_each clock w (step.Ack delivery) timed is each h = acknowledged_each ranks clock w is each delivery h
    step_each clock w (step.Abandon delivery) timed is each h = abandoned_each net labelled ranks clock w is each delivery h
    step_each clock w (step.Foreign message) timed is each h = absurd (never_foreign net labelled leads ranks clock w is message h)
    step_each clock w (step.Enqueue name) timed is each h = enqueued_each net labelled ranks clock w is each name h (is_due net ranks clock name timed)
    step_each clock w (step.Claim name) timed is each h = claimed_each net labelled ranks clock w is each name h
    step_each clock w (step.Back name) timed is each h = given_back_each net labelled ranks clock w is each name h
    step_each clock w (step.Forward name server) timed is each h = forwarded_each net labelled ranks clock w is each name server h
    step_each clock w (step.Seen name) timed is each h = seen_each net labelled ranks clock w is each name h
    step_each clock w (step.Write name) timed is each h = written_each net labelled ranks clock w is each name h
    step_each clock w (step.Part name count) timed is each h = parted_each net labelled ranks clock w is each name count h
    step_each clock w (step.Purge name) timed is each h = purged_each net labelled ranks clock w is each name h
    step_each clock w (step.Done name) timed is each h = done_each net labelled ranks clock w is each name h
    step_each clock w (step.Discard name) timed is each h = discarded_each net labelled ranks clock w is each name h
    step_each clock w (step.Oldest relay buffer) timed is each h = oldest_each net labelled ranks clock w is each relay buffer h
    step_each clock w (step.Restart relay) timed is each h = restarted_each net labelled ranks clock w is each relay

    run_each : (steps : List (Step A)) (clock : ℕ) (before after : World) → AreTimed net ranks clock steps → IsRanked net labelled ranks clock before → IsEach net ranks before → Steps net before steps after → IsEach net ranks after
    run_each [] clock before after timed kept each is = rw is each
    run_each (next ∷ steps) clock before after timed kept each run =
        let now : IsTimed net ranks clock next = timed 0 clock next refl (omega arith) in
        run_each steps (clock + 1) (effect net before next) after (λ k at other there e. timed (suc k) at other there (omega (arith, e)))
        (step_keeps net labelled leads ranks clock before next now kept run.1) (step_each clock before next now kept each run.1) run.2

    opening_each : IsEach net ranks initial_world
    opening_each = record {
      chunks = λ place buffer serial chunk at. absurd (cc);
      messages = λ number message at. absurd (cc);
      deliveries = λ number d at. absurd (cc);
      acknowledged = λ told inside. absurd (let less = inside.1 in omega arith);
    }

  -- Each branch keeps every event that was acknowledged to a client, after every list of steps.
  pub each_branch : (steps : List (Step A)) (w : World) → Steps net initial_world steps w → EachBranchKeeps net w
  each_branch steps w run k d less =
      let ranks = rank_in net steps in
      let each = run_each ranks steps 0 initial_world w (are_timed net steps) (opening_kept net labelled leads ranks) (opening_each ranks) run in
      let told = get_or w.acknowledged k d in
      let c = some_and (slice_get net.clients told.client) _ (each.acknowledged told (All-contains_itself w.acknowledged k d less)) in
      and_some (slice_get net.clients told.client) (λ client. EachKeeps net w.buffers w.messages (address_of_client net client) told.event.tag told.event.entry) c.0 c.1
      (each_along net ranks w.buffers w.messages told.event.entry 0 (address_of_client net c.0) told.event.tag c.2)
