use Rattle.std.proofs.Common.{ℕ, List, subst}
use Rattle.msgpack_bytes.specs.declared.answers.Scan.TheVariants.{End, Need, Bad}
use Rattle.msgpack_bytes.specs.Answers.{IsScanned}
use Rattle.msgpack_bytes.proofs.States.{exact}
use Rattle.msgpack_bytes.proofs.Reaching.{end_in_all}
use Rattle.msgpack_bytes.proofs.whole.scan.Goals as goal

pub returns-in-End-clause-only : goal.returns-in-End-clause-only
returns-in-End-clause-only c = (exact _ _ (End _) (end_in_all _ _ _ c.requires (subst (λ (rest : List ℕ). IsScanned rest 0 (End c.in-End.end)) c.split_at.ensures.back c.in-End.ensures))).only

pub returns-in-Need-clause-only : goal.returns-in-Need-clause-only
returns-in-Need-clause-only c = (exact _ _ Need (subst (λ (rest : List ℕ). IsScanned rest 0 Need) c.split_at.ensures.back c.in-Need.ensures)).only

pub returns-in-Bad-clause-only : goal.returns-in-Bad-clause-only
returns-in-Bad-clause-only c = (exact _ _ (Bad c.in-Bad.fault) (subst (λ (rest : List ℕ). IsScanned rest 0 (Bad c.in-Bad.fault)) c.split_at.ensures.back c.in-Bad.ensures)).only
