-- A new file is filled with pieces.
use Rattle.std.proofs.Common.{◌≡◌, ℕ, ◌+◌, ◌≤◌, List, [], Option, Some, None, Result, Ok, Err, OnOk, sym, ap, subst, ◌∙◌, arith}
use Rattle.std.specs.Prelude.{IsSome, IsOk, IsErrOf}
use Rattle.disk_files.specs.Disk.{Disk, Makes, new_file, with_bytes, read_of}
use Rattle.disk_files.specs.Moments.{History, now, LeavesOnly}
use Rattle.disk_files.specs.declared.dir.FileNo.{FileNo}
use Rattle.disk_files.proofs.Moments.{elsewhere, follows, joined, weaker}
use Rattle.file_pieces.specs.Adding.{Copies, HasPieceCause, IsLeftOf, Partly}
use Rattle.file_pieces.specs.Pieces.{pieces_bytes, total_room}
use Rattle.file_pieces.specs.declared.error.PieceError.{PieceError}
use Rattle.file_pieces.specs.declared.error.PieceError.TheVariants as piece
use Rattle.file_pieces.specs.declared.piece.Piece.{Piece}
use Rattle.journal_files.specs.Pieces.{HasNew, IsUnfinished}
use Rattle.journal_files.specs.Sources.{CanGive, Fills, HasAnyNew, IsOther}
use Rattle.journal_files.proofs.Names.{apart}
use Rattle.journal_files.proofs.Renewing.{is_some_name}
use Rattle.journal_files.proofs.Steps.{on_ok}
use Rattle.journal_files.proofs.Written.{begun_so_far}

any_ok : {T E : Type 0} {A : Type 0} (result : Result T E) → A → OnOk result A
any_ok (Ok x) a = a
any_ok (Err x) a = tt

-- ---- what is there of the file

-- what is copied from has not changed
copies : (opened_old opened_mid : FileNo → Option (List ℕ)) (old mid : Disk) (name : List ℕ) (from to : FileNo) (seen : List ℕ)
    → ((file : FileNo) → IsSome (opened_old file) → opened_mid file ≡ opened_old file) → (named : opened_mid to ≡ Some name) → (makes : Makes name old mid)
    → (other : IsOther opened_old old name from seen) → Copies opened_mid mid from to other.source name seen
copies opened_old opened_mid old mid name from to seen others named makes other = record {
  source_is = others from (is_some_name (opened_old from) other.source other.source_is) ∙ other.source_is;
  name_is = named;
  apart = other.apart;
  there = ap read_of (elsewhere old mid name other.source _ makes.1 (apart name other.source (λ e. other.apart (sym e)))) ∙ other.there;
}

-- a new file that is empty
empty : (name : List ℕ) (old mid : Disk) → Makes name old mid → HasNew name [] old mid
empty name old mid makes = record { none = makes.0; made = makes.1 }

module _ {A D T : Type 0} (honest : D → Type 0) (history : D → History) (opened : D → FileNo → Option (List ℕ)) (bytes_left : D → FileNo → ℕ) (fault_count : D → ℕ) (to : FileNo) (pieces : List (Piece A)) (name : List ℕ)
    (old mid new : D) (result : Result T PieceError) where
  pub fill_honest : (from : Option FileNo) → Fills honest history opened bytes_left fault_count from to pieces mid new result → honest mid → honest new
  fill_honest None fills h = subst honest (sym fills.0) h
  fill_honest (Some file) fills h = fills.honest h

  pub fill_opened : (from : Option FileNo) → Fills honest history opened bytes_left fault_count from to pieces mid new result → (other : FileNo) → opened new other ≡ opened mid other
  fill_opened None fills other = ap (λ (d : D). opened d other) fills.0
  fill_opened (Some file) fills other = fills.stays_open other

  pub fill_room : (from : Option FileNo) → Fills honest history opened bytes_left fault_count from to pieces mid new result → (more : ℕ) → total_room pieces + more ≤ bytes_left mid to → more ≤ bytes_left new to
  fill_room None fills more room = omega (arith, room, ap (λ (d : D). bytes_left d to) fills.0)
  fill_room (Some file) fills more room = omega (arith, room, fills.room)

  none_cause : (r : Result T PieceError) → fault_count new ≡ fault_count mid → IsOk r → HasPieceCause (fault_count mid) (fault_count new) r
  none_cause (Ok x) same ok = record { later = omega (arith, same); passed = same; failed = λ no. absurd (cc no); short = λ no. same }
  none_cause (Err e) same ok = absurd (cc ok)

  pub fill_cause : (from : Option FileNo) → Fills honest history opened bytes_left fault_count from to pieces mid new result → HasPieceCause (fault_count mid) (fault_count new) result
  fill_cause None fills = none_cause result (ap fault_count fills.0) fills.1
  fill_cause (Some file) fills = fills.cause

  -- the file is there, with some bytes
  module _ (h : honest mid) (named : opened mid to ≡ Some name) (makes : Makes name (now (history old)) (now (history mid))) where
    pub fill_any : (from : Option FileNo) → Fills honest history opened bytes_left fault_count from to pieces mid new result → HasAnyNew name (now (history old)) (now (history new))
    fill_any None fills = subst (λ (d : D). HasAnyNew name (now (history old)) (now (history d))) (sym fills.0) (record { bytes = []; new = empty name (now (history old)) (now (history mid)) makes })
    fill_any (Some file) fills =
        let grows = fills.grows h name named in
        record { bytes = grows.bytes; new = record { none = makes.0; made = follows (now (history old)) (now (history mid)) (now (history new)) name (Some new_file) (with_bytes grows.bytes) makes.1 grows.grew } }

    -- where the pieces come to certain bytes
    module _ (others : (file : FileNo) → IsSome (opened old file) → opened mid file ≡ opened old file) (bytes : List ℕ) where
      pub fill_ok : (from : Option FileNo) → Fills honest history opened bytes_left fault_count from to pieces mid new result → CanGive (opened old) (now (history old)) name from pieces bytes
          → OnOk result (HasNew name bytes (now (history old)) (now (history new)))
      fill_ok None fills can =
          any_ok result (subst (λ (b : List ℕ). HasNew name b (now (history old)) (now (history new))) (sym can)
          (subst (λ (d : D). HasNew name [] (now (history old)) (now (history d))) (sym fills.0) (empty name (now (history old)) (now (history mid)) makes)))
      fill_ok (Some file) fills can =
          on_ok result (fills.ok h can.other.source name can.seen (copies (opened old) (opened mid) (now (history old)) (now (history mid)) name file to can.seen others named makes can.other) can.within)
          (λ changes. subst (λ (b : List ℕ). HasNew name b (now (history old)) (now (history new))) can.come
          (record { none = makes.0; made = follows (now (history old)) (now (history mid)) (now (history new)) name (Some new_file) (with_bytes (pieces_bytes can.seen pieces)) makes.1 changes }))

      begun : (seen : List ℕ) (disk : Disk) → pieces_bytes seen pieces ≡ bytes → Partly name (pieces_bytes seen pieces) (now (history mid)) disk → IsUnfinished name bytes (now (history old)) disk
      begun seen disk come part =
          subst (λ (b : List ℕ). IsUnfinished name b (now (history old)) disk) come (begun_so_far name (pieces_bytes seen pieces) part.len (now (history old)) (now (history mid)) disk makes part.grew)

      none_whole : (r : Result T PieceError) → IsOk r → IsErrOf r piece.Short → ⊥
      none_whole (Ok x) ok short = cc short
      none_whole (Err e) ok short = cc ok

      pub fill_whole : (from : Option FileNo) → Fills honest history opened bytes_left fault_count from to pieces mid new result → CanGive (opened old) (now (history old)) name from pieces bytes
          → IsErrOf result piece.Short → ⊥
      fill_whole None fills can short = none_whole result fills.1 short
      fill_whole (Some file) fills can short =
          fills.whole h can.other.source name can.seen (copies (opened old) (opened mid) (now (history old)) (now (history mid)) name file to can.seen others named makes can.other) can.within short

      -- a stop at any moment leaves some of them
      pub fill_moments : (from : Option FileNo) → Fills honest history opened bytes_left fault_count from to pieces mid new result → CanGive (opened old) (now (history old)) name from pieces bytes
          → LeavesOnly (history old) (history mid) (IsLeftOf (IsUnfinished name bytes (now (history old)))) → LeavesOnly (history old) (history new) (IsLeftOf (IsUnfinished name bytes (now (history old))))
      fill_moments None fills can so_far = subst (λ (d : D). LeavesOnly (history old) (history d) (IsLeftOf (IsUnfinished name bytes (now (history old))))) (sym fills.0) so_far
      fill_moments (Some file) fills can so_far =
          let adds = fills.moments h can.other.source name can.seen (copies (opened old) (opened mid) (now (history old)) (now (history mid)) name file to can.seen others named makes can.other) can.within in
          joined (history old) (history mid) (history new) (IsLeftOf (IsUnfinished name bytes (now (history old)))) so_far
          (weaker (history mid) (history new) (IsLeftOf (Partly name (pieces_bytes can.seen pieces) (now (history mid)))) (IsLeftOf (IsUnfinished name bytes (now (history old))))
          (λ folder left. record { disk = left.disk; so = begun can.seen left.disk can.come left.so; stays = left.stays }) adds)
