-- One lawful act more.
use Rattle.std.proofs.Common.{◌≡◌, ℕ, List, ◌∷◌, sym, subst}
use Rattle.ack_receipt.specs.Claims.{Claimed}
use Rattle.ack_receipt.specs.Evidences.{Shows}
use Rattle.flush_pool.specs.Acts.{Act, Place, Post}
use Rattle.flush_pool.specs.Laws.{AreLawful, IsVouched, May}

-- what was lawful is so with an act that may stand behind it, and for which its courier or its gate
-- answers
pub lawful : {A C G : Type 0} (lets : G → ℕ → Type 0) (gives : C → Claimed → Shows → Type 0)
    (post : Post A C G) (act : Act) (old new : List Act) (place : Place A C G)
    → record { post = post; acts = old } ≡ place → new ≡ act ∷ old
    → May place.post.terms.leaf place.post.terms.takes place.acts act
    → IsVouched lets gives place.post act
    → AreLawful lets gives post old → AreLawful lets gives post new
lawful {A = A} {C = C} {G = G} lets gives post act old new place is more may vouched before =
    subst (λ (acts : List Act). AreLawful lets gives post acts) (sym more) (
      subst (λ (p : Place A C G). May p.post.terms.leaf p.post.terms.takes p.acts act) (sym is) may,
      subst (λ (p : Place A C G). IsVouched lets gives p.post act) (sym is) vouched,
      before,
    )
