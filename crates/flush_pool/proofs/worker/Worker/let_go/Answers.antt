use Rattle.std.proofs.Common.{◌≡◌, ℕ, sym, ap, ◌∙◌}
use Rattle.std.specs.Prelude.{Some}
use Rattle.ack_receipt.specs.Claims.{Claimed}
use Rattle.ack_receipt.specs.Evidences.{Shows}
use Rattle.flush_pool.specs.Acts.{Place, Purged, did, last}
use Rattle.flush_pool.specs.Laws.{WasPurged}
use Rattle.flush_pool.proofs.worker.Worker.let_go.Goals as goal

-- the chunk was purged by this evidence
was_purged : {A C G : Type 0} (claim : Claimed) (n : ℕ) (shown : Shows) (old new : Place A C G) → n ≡ claim.serial → new ≡ did (Purged claim.serial shown) old → WasPurged n new.acts
was_purged {A = A} {C = C} {G = G} claim n shown old new named is = (shown, ap (λ (p : Place A C G). last p.acts) is ∙ ap (λ (k : ℕ). Some (Purged k shown)) (sym named))

pub forget-requires : goal.forget-requires
forget-requires g c = was_purged c.args.claim c.serial-serial.result c.args.evidence c.args.self.now c.purge.new.self c.serial-serial.ensures c.in_default.ensures
