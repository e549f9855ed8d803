-- What an accepted call tells.
use Rattle.std.proofs.Common.{◌≡◌, ℕ, ◌+◌, ◌⊎◌, List, ◌++◌, length, take, ℤ, Some, ap, ◌∙◌, subst, inl, inr, le_refl, arith, take_all}
use lib.Seq.{take-append-le}
use Rattle.cipher.specs.declared.block.Block.{Block}
use Rattle.modes.specs.declared.mode.Mode.{Mode}
use Rattle.modes.specs.declared.mode.Mode.TheVariants.{Ecb}
use Rattle.curve.specs.Curves.{Curve}
use Rattle.rules.specs.Registers.{Number, State, in_force, withdrawn}
use Rattle.rules.specs.Parcels.{start_of, parcel_of, Parcel}
use Rattle.rules.specs.Calls.{Call, Answer, Withdraw, Flows, Convert, Seal, TakeIn, Open, Does, refused, accepted, sealed, opened, open_parcel, take_in, withdraw_1, marked, convert_1, convert_2, convert_6, convert_11, convert_7, converted, seal_18, seal_15, seal_11, written, take_in_11, take_in_12, take_in_13, take_in_14, take_in_5, taken_in_from, open_8, open_9, open_10, opening}
use Rattle.rules.proofs.Moves.{Merging, put_here}

-- an answer is one of two that differ: no case is left
clash : {X : Type 0} (a : Answer) (m n : ℕ) → (m ≡ n → ⊥) → a ≡ refused m → a ≡ refused n → X
clash a m n d h k = absurd (d (let e : m ≡ n = cc (h, k) in e))

not_accepted : {X : Type 0} (a : Answer) (m : ℕ) → a ≡ accepted → a ≡ refused m → X
not_accepted a m h k = absurd (let z : ◌≡◌ {A = ℕ} 0 1 = cc (h, k) in omega arith)

not_sealed : {X : Type 0} (a : Answer) (m x y : ℕ) (b : Block) → a ≡ sealed x y b → a ≡ refused m → X
not_sealed a m x y b h k = absurd (let z : ◌≡◌ {A = ℕ} 0 1 = cc (h, k) in omega arith)

not_opened : {X : Type 0} (a : Answer) (m x y z : ℕ) → a ≡ opened x y z → a ≡ refused m → X
not_opened a m x y z h k = absurd (let z : ◌≡◌ {A = ℕ} 0 1 = cc (h, k) in omega arith)

front : (l : ℕ) (lent xs ys : List ℕ) → l ≡ length xs → lent ≡ xs ++ ys → take l lent ≡ xs
front l lent xs ys e o = rw (e, o) (take-append-le (length xs) xs ys (le_refl (length xs)) ∙ take_all (length xs) xs (le_refl (length xs)))

module _ (E1 E2 : Block → Block) (s : State) (a : Answer) (lent : List ℕ) (t : State) where
  pub withdraw_marks : (n : ℕ) → a ≡ accepted → Withdraw n s a t → t.standing n ≡ Some withdrawn
  withdraw_marks n e (withdraw_1 _ r _) = not_accepted a 1 e r
  withdraw_marks n e (marked _ _ h) = ap (λ u. u.standing n) h ∙ put_here n withdrawn s

  take_merges : {bytes : List ℕ} (p : Parcel bytes) (work : List ℕ) (x y z : ℕ) → a ≡ opened x y z → TakeIn E1 p work s a t → Merging E1 s bytes t
  take_merges p work x y z e (take_in_11 _ r _) = not_opened a 11 x y z e r
  take_merges p work x y z e (take_in_12 _ _ _ _ r _) = not_opened a 12 x y z e r
  take_merges p work x y z e (take_in_13 _ _ _ _ r _) = not_opened a 13 x y z e r
  take_merges p work x y z e (take_in_14 _ _ _ _ _ r _) = not_opened a 14 x y z e r
  take_merges p work x y z e (take_in_5 _ _ _ _ _ _ r _) = not_opened a 5 x y z e r
  take_merges p work x y z e (taken_in_from xs _ r b _ f _ h) = record { parcel = p; text = xs; reads = r; bundle = b; fits = f; after = h }

  open_merges : (bytes work : List ℕ) (x y z : ℕ) → a ≡ opened x y z → Open E1 E2 bytes work s a t → Merging E1 s bytes t
  open_merges bytes work x y z e (open_8 _ r _) = not_opened a 8 x y z e r
  open_merges bytes work x y z e (open_9 _ _ r _) = not_opened a 9 x y z e r
  open_merges bytes work x y z e (open_10 _ _ _ r _) = not_opened a 10 x y z e r
  open_merges bytes work x y z e (opening p _ _ h) = take_merges p work x y z e h

  pub opened_merges : (q : Call) (bytes work : List ℕ) (x y z : ℕ) → (q ≡ open_parcel bytes work) ⊎ (q ≡ take_in bytes work) → a ≡ opened x y z → Does E1 E2 s q a lent t → Merging E1 s bytes t
  opened_merges q bytes work x y z (inl k) e h = open_merges bytes work x y z e (subst (λ q. Does E1 E2 s q a lent t) k h).0
  opened_merges q bytes work x y z (inr k) e h = let r = (subst (λ q. Does E1 E2 s q a lent t) k h).0 in take_merges r.parcel work x y z e r.taken

  pub record Sealing (m : Mode) (size : ℕ) (start : Block) : Type 0 where
    pub not_ecb : m ≡ Ecb → ⊥
    pub serial_left : s.serial ≡ 65535 → ⊥
    pub begins : start ≡ start_of E1 s.station (s.serial + 1)
    pub front_is : take size lent ≡ parcel_of E1 E2 m s
    pub serial_raised : t.serial ≡ s.serial + 1

  pub sealing : (m : Mode) (room : List ℕ) (size serial : ℕ) (start : Block) → a ≡ sealed size serial start → Seal E1 E2 m room s a lent t → Sealing m size start
  sealing m room l k b e (seal_18 _ r _ _) = not_sealed a 18 l k b e r
  sealing m room l k b e (seal_15 _ _ r _ _) = not_sealed a 15 l k b e r
  sealing m room l k b e (seal_11 _ _ _ r _ _) = not_sealed a 11 l k b e r
  sealing m room l k b e (written u v _ r o h) = record {
    not_ecb = u;
    serial_left = v;
    begins = cc (e, r);
    front_is = front l lent (parcel_of E1 E2 m s) _ (cc (e, r)) o;
    serial_raised = ap (λ x. x.serial) h;
  }

  pub convert_marked : (n : ℕ) (st : List ℤ) (room : List ℕ) → Number n → s.standing n ≡ Some withdrawn → Convert n st room s a lent → (a ≡ refused 2) × (lent ≡ room)
  convert_marked n st room i m (convert_1 o _ _) = absurd (o i)
  convert_marked n st room i m (convert_2 _ _ e l) = (e, l)
  convert_marked n st room i m (convert_6 _ f _ _) = absurd (let z : ◌≡◌ {A = ℕ} 0 1 = cc (m, f) in omega arith)
  convert_marked n st room i m (convert_11 _ _ f _ _ _) = absurd (let z : ◌≡◌ {A = ℕ} 0 1 = cc (m, f) in omega arith)
  convert_marked n st room i m (convert_7 _ _ f _ _ _ _) = absurd (let z : ◌≡◌ {A = ℕ} 0 1 = cc (m, f) in omega arith)
  convert_marked n st room i m (converted _ _ f _ _ _ _) = absurd (let z : ◌≡◌ {A = ℕ} 0 1 = cc (m, f) in omega arith)

  pub convert_says_2 : (n : ℕ) (st : List ℤ) (room : List ℕ) → a ≡ refused 2 → Convert n st room s a lent → s.standing n ≡ Some withdrawn
  convert_says_2 n st room e (convert_1 _ r _) = clash a 2 1 (omega arith) e r
  convert_says_2 n st room e (convert_2 _ m _ _) = m
  convert_says_2 n st room e (convert_6 _ _ r _) = clash a 2 6 (omega arith) e r
  convert_says_2 n st room e (convert_11 _ _ _ _ r _) = clash a 2 11 (omega arith) e r
  convert_says_2 n st room e (convert_7 _ _ _ _ _ r _) = clash a 2 7 (omega arith) e r
  convert_says_2 n st room e (converted _ _ _ _ _ r _) = not_accepted a 2 r e

  pub convert_flows : (n : ℕ) (st : List ℤ) (room : List ℕ) → a ≡ accepted → Convert n st room s a lent → (c : Curve) × (s.standing n ≡ Some (in_force c)) × Flows c st room lent
  convert_flows n st room e (convert_1 _ r _) = not_accepted a 1 e r
  convert_flows n st room e (convert_2 _ _ r _) = not_accepted a 2 e r
  convert_flows n st room e (convert_6 _ _ r _) = not_accepted a 6 e r
  convert_flows n st room e (convert_11 _ _ _ _ r _) = not_accepted a 11 e r
  convert_flows n st room e (convert_7 _ _ _ _ _ r _) = not_accepted a 7 e r
  convert_flows n st room e (converted c _ h _ _ _ l) = (c, h, l)
