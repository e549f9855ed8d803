-- The relations pin everything: one state and one set of arguments have one answer, one content of what was lent, and
-- one state after. Each call is read as a chain of questions, and each question leaves one outcome.
use Rattle.std.proofs.Common.{◌≡◌, ℕ, zero, suc, ◌+◌, ◌<◌, ◌≤◌, List, [], ◌∷◌, ◌++◌, length, get_or, drop, replicate, ℤ, pos, Some, None, Option, sym, refl, ap, ◌∙◌, subst, arith}
use Rattle.cipher.specs.declared.block.Block.{Block}
use Rattle.cipher.specs.Bytes.{bytes_of}
use Rattle.modes.specs.declared.mode.Mode.{Mode}
use Rattle.modes.specs.declared.mode.Mode.TheVariants.{Ecb}
use Rattle.modes.specs.Cmac.{tag_of}
use Rattle.modes.specs.Texts.{OneText}
use Rattle.curve.specs.Curves.{Curve, Makes, points, LawfulCurve}
use Rattle.curve.proofs.Neighbours.{flow_one}
use Rattle.rules.specs.Registers.{Number, Standing, State, Lawful, places_in_use, put, in_force, withdrawn}
use Rattle.rules.specs.Bundles.{Entry, encoding, LawfulList, Bundle, PadsTo}
use Rattle.rules.specs.Parcels.{header, start_of, parcel_of, Sized, Parcel, Reads}
use Rattle.rules.specs.Calls.{Answer, Publish, Withdraw, AllCovered, Flows, Convert, raised, Seal, newly_marked, new_curve, passed_over, meeting, merged, Clash, TooMany, TakeIn, Open, TakesIn, refused, accepted, sealed, opened, publish, withdraw, convert, seal, open_parcel, take_in, publish_1, publish_2, publish_3, publish_4, publish_5, published, withdraw_1, marked, convert_1, convert_2, convert_6, convert_11, convert_7, converted, seal_18, seal_15, seal_11, written, take_in_11, take_in_12, take_in_13, take_in_14, take_in_5, taken_in_from, open_8, open_9, open_10, opening}
use Rattle.rules.specs.Laws.{Pinned}
use Rattle.rules.proofs.Encoding.{one_list}
use Rattle.rules.proofs.Padding.{pads_one}
use Rattle.rules.proofs.Parcels.{parcel_one}

-- ---- outcomes, and questions that leave one

pub record Outcome : Type 0 where
  pub answer : Answer
  pub lent : List ℕ
  pub after : State

abbrev outcome : Answer → List ℕ → State → Outcome
outcome a l t = record { answer = a; lent = l; after = t }

-- nothing but this
data Is (a : Answer) (l : List ℕ) (t : State) (o : Outcome) : Type 0 where
  is : o.answer ≡ a → o.lent ≡ l → o.after ≡ t → Is a l t o

abbrev One : (Outcome → Type 0) → Type 0
One X = (o p : Outcome) → X o → X p → o ≡ p

is_one : {a : Answer} {l : List ℕ} {t : State} → One (Is a l t)
is_one o p (is x y z) (is u v w) = λ i. record { answer = (x ∙ sym u) i; lent = (y ∙ sym v) i; after = (z ∙ sym w) i }

-- a question: X where P holds, Y where it does not
data Turn (P : Type 0) (X Y : Outcome → Type 0) (o : Outcome) : Type 0 where
  holds : P → X o → Turn P X Y o
  fails : (P → ⊥) → Y o → Turn P X Y o

turn_one : {P : Type 0} {X Y : Outcome → Type 0} → (P → One X) → ((P → ⊥) → One Y) → One (Turn P X Y)
turn_one f g o p (holds h x) (holds _ y) = f h o p x y
turn_one f g o p (holds h _) (fails n _) = absurd (n h)
turn_one f g o p (fails n _) (holds h _) = absurd (n h)
turn_one f g o p (fails n x) (fails _ y) = g n o p x y

-- a question with nothing to show of its answers but that each leaves one
ask : {P : Type 0} {X Y : Outcome → Type 0} → One X → One Y → One (Turn P X Y)
ask f g = turn_one (λ _. f) (λ _. g)

-- a thing that there is only one of
data Given (A : Type 0) (Q : A → Type 0) (X : A → Outcome → Type 0) (o : Outcome) : Type 0 where
  given : (a : A) → Q a → X a o → Given A Q X o

given_one : {A : Type 0} {Q : A → Type 0} {X : A → Outcome → Type 0} → ((a b : A) → Q a → Q b → a ≡ b) → ((a : A) → Q a → One (X a)) → One (Given A Q X)
given_one {X = X} u f o p (given a q x) (given b r y) = f b r o p (subst (λ c. X c o) (u a b q r) x) y

-- ---- what stands is one thing

none-some : {X : Type 0} (o : Option Standing) (x : Standing) → o ≡ None → o ≡ Some x → X
none-some o x h k = absurd (let z : ◌≡◌ {A = ℕ} 0 1 = cc (h, k) in omega arith)

mark_curve : {X : Type 0} (o : Option Standing) (c : Curve) → o ≡ Some withdrawn → o ≡ Some (in_force c) → X
mark_curve o c h k = absurd (let z : ◌≡◌ {A = ℕ} 0 1 = cc (h, k) in omega arith)

curve_same : (o : Option Standing) (c d : Curve) → o ≡ Some (in_force c) → o ≡ Some (in_force d) → c ≡ d
curve_same o c d h k = cc (h, k)

-- ---- publish, withdraw

module _ (n : ℕ) (st : List ℤ) (fl : List ℕ) (s : State) where
  Publishing : Outcome → Type 0
  Publishing =
      Turn (Number n)
      (Turn (s.standing n ≡ Some withdrawn) (Is (refused 2) [] s)
      (Turn (Makes st fl)
      (Turn (s.standing n ≡ None)
      (Turn (places_in_use s.standing < 32) (Is accepted [] (put n (in_force (points st fl)) s)) (Is (refused 5) [] s))
      (Is (refused 4) [] s))
      (Is (refused 3) [] s)))
      (Is (refused 1) [] s)

  publishing : (a : Answer) (l : List ℕ) (t : State) → Publish n st fl s a t → l ≡ [] → Publishing (outcome a l t)
  unfolding Publishing
  publishing a l t (publish_1 o e h) k = fails o (is e k h)
  publishing a l t (publish_2 i m e h) k = holds i (holds m (is e k h))
  publishing a l t (publish_3 i m c e h) k = holds i (fails m (fails c (is e k h)))
  publishing a l t (publish_4 c i m g e h) k = holds i (fails (λ x. mark_curve (s.standing n) c x m) (holds g (fails (λ x. none-some (s.standing n) (in_force c) x m) (is e k h))))
  publishing a l t (publish_5 i m g f e h) k = holds i (fails (λ x. none-some (s.standing n) withdrawn m x) (holds g (holds m (fails (λ r. omega arith) (is e k h)))))
  publishing a l t (published i m g r e h) k = holds i (fails (λ x. none-some (s.standing n) withdrawn m x) (holds g (holds m (holds r (is e k h)))))

  publishing_one : One Publishing
  unfolding Publishing
  publishing_one = ask (ask is_one (ask (ask (ask is_one is_one) is_one) is_one)) is_one

module _ (n : ℕ) (s : State) where
  Withdrawing : Outcome → Type 0
  Withdrawing = Turn (Number n) (Is accepted [] (put n withdrawn s)) (Is (refused 1) [] s)

  withdrawing : (a : Answer) (l : List ℕ) (t : State) → Withdraw n s a t → l ≡ [] → Withdrawing (outcome a l t)
  unfolding Withdrawing
  withdrawing a l t (withdraw_1 o e h) k = fails o (is e k h)
  withdrawing a l t (marked i e h) k = holds i (is e k h)

  withdrawing_one : One Withdrawing
  unfolding Withdrawing
  withdrawing_one = ask is_one is_one

-- ---- convert

-- the flows, and nothing but them
data Filled (c : Curve) (st : List ℤ) (room : List ℕ) (s : State) (o : Outcome) : Type 0 where
  filled : o.answer ≡ accepted → Flows c st room o.lent → o.after ≡ s → Filled c st room s o

-- lists of one length that agree up to k and from k on are one
lists_one : (xs ys : List ℕ) (k : ℕ) → length xs ≡ length ys → ((j : ℕ) → j < k → get_or xs j 0 ≡ get_or ys j 0) → drop k xs ≡ drop k ys → xs ≡ ys
lists_one xs ys zero l f d = d
lists_one [] [] (suc k) l f d = refl
lists_one [] (y ∷ ys) (suc k) l f d = absurd (omega arith)
lists_one (x ∷ xs) [] (suc k) l f d = absurd (omega arith)
lists_one (x ∷ xs) (y ∷ ys) (suc k) l f d =
    let e : x ≡ y = f 0 (omega arith) in
    let r : xs ≡ ys = lists_one xs ys k (omega arith) (λ j m. f (suc j) (omega arith)) d in
    cc (e, r)

filled_one : (c : Curve) → LawfulCurve c → (st : List ℤ) (room : List ℕ) (s : State) → One (Filled c st room s)
filled_one c L st room s o p (filled a f t) (filled b g u) =
    let e = lists_one o.lent p.lent (length st) (f.size ∙ sym g.size) (λ j m. flow_one c L (get_or st j (pos 0)) (get_or o.lent j 0) (get_or p.lent j 0) (f.flow j m) (g.flow j m)) (f.rest ∙ sym g.rest) in
    λ i. record { answer = (a ∙ sym b) i; lent = e i; after = (t ∙ sym u) i }

module _ (n : ℕ) (st : List ℤ) (room : List ℕ) (s : State) (L : Lawful s) where
  Inside : Curve → Outcome → Type 0
  Inside c = Turn (length st ≤ length room) (Turn (AllCovered c st) (Filled c st room s) (Is (refused 7) room s)) (Is (refused 11) room s)

  Converting : Outcome → Type 0
  Converting =
      Turn (Number n)
      (Turn (s.standing n ≡ Some withdrawn) (Is (refused 2) room s)
      (Turn (s.standing n ≡ None) (Is (refused 6) room s)
      (Given Curve (λ c. s.standing n ≡ Some (in_force c)) Inside)))
      (Is (refused 1) room s)

  converting : (a : Answer) (l : List ℕ) (t : State) → Convert n st room s a l → t ≡ s → Converting (outcome a l t)
  unfolding Converting Inside
  converting a l t (convert_1 o e k) h = fails o (is e k h)
  converting a l t (convert_2 i m e k) h = holds i (holds m (is e k h))
  converting a l t (convert_6 i m e k) h = holds i (fails (λ x. none-some (s.standing n) withdrawn m x) (holds m (is e k h)))
  converting a l t (convert_11 c i m r e k) h = holds i (fails (λ x. mark_curve (s.standing n) c x m) (fails (λ x. none-some (s.standing n) (in_force c) x m) (given c m (fails (λ q. omega arith) (is e k h)))))
  converting a l t (convert_7 c i m r f e k) h = holds i (fails (λ x. mark_curve (s.standing n) c x m) (fails (λ x. none-some (s.standing n) (in_force c) x m) (given c m (holds r (fails f (is e k h))))))
  converting a l t (converted c i m r f e k) h = holds i (fails (λ x. mark_curve (s.standing n) c x m) (fails (λ x. none-some (s.standing n) (in_force c) x m) (given c m (holds r (holds f (filled e k h))))))

  converting_one : One Converting
  unfolding Converting Inside
  converting_one = ask (ask is_one (ask is_one (given_one (curve_same (s.standing n)) (λ c m. ask (ask (filled_one c (L.curves n c m) st room s) is_one) is_one)))) is_one

-- ---- seal

module _ (E1 E2 : Block → Block) (m : Mode) (room : List ℕ) (s : State) where
  Sealing : Outcome → Type 0
  Sealing =
      Turn (m ≡ Ecb) (Is (refused 18) room s)
      (Turn (s.serial ≡ 65535) (Is (refused 15) room s)
      (Turn (length room < length (parcel_of E1 E2 m s)) (Is (refused 11) room s)
      (Is (sealed (length (parcel_of E1 E2 m s)) (s.serial + 1) (start_of E1 s.station (s.serial + 1)))
      (parcel_of E1 E2 m s ++ drop (length (parcel_of E1 E2 m s)) room) (raised s))))

  sealing : (a : Answer) (l : List ℕ) (t : State) → Seal E1 E2 m room s a l t → Sealing (outcome a l t)
  unfolding Sealing
  sealing a l t (seal_18 u e k h) = holds u (is e k h)
  sealing a l t (seal_15 u v e k h) = fails u (holds v (is e k h))
  sealing a l t (seal_11 u v r e k h) = fails u (fails v (holds r (is e k h)))
  sealing a l t (written u v r e k h) = fails u (fails v (fails (λ q. omega arith) (is e k h)))

  sealing_one : One Sealing
  unfolding Sealing
  sealing_one = ask is_one (ask is_one (ask is_one is_one))

-- ---- taking in, and open

-- what counts of a parcel
record Parts : Type 0 where
  mode : Mode
  station : ℕ
  serial : ℕ
  body : List ℕ
  tag : List ℕ

parts : {bytes : List ℕ} → Parcel bytes → Parts
parts p = record { mode = p.mode; station = p.station; serial = p.serial; body = p.body; tag = p.tag }

-- the bytes are taken apart so
PartsOf : List ℕ → Parts → Type 0
PartsOf bytes v = (p : Parcel bytes) × (v ≡ parts p)

parts_one : (bytes : List ℕ) (v w : Parts) → PartsOf bytes v → PartsOf bytes w → v ≡ w
unfolding PartsOf parts
parts_one bytes v w (p, e) (q, f) =
    let a = parcel_one bytes bytes refl p q in
    let g : parts p ≡ parts q = λ i. record { mode = a.mode i; station = a.station i; serial = a.serial i; body = a.body i; tag = a.tag i } in
    e ∙ g ∙ sym f

module _ (E1 : Block → Block) (work : List ℕ) (s : State) where
  zeros : List ℕ
  zeros = replicate (length work) 0

  Merged : List Entry → Outcome → Type 0
  Merged xs =
      Turn (Clash s xs) (Is (refused 14) zeros s)
      (Turn (TooMany s xs) (Is (refused 5) zeros s)
      (Is (opened (meeting newly_marked s xs) (meeting new_curve s xs) (meeting passed_over s xs)) zeros (merged xs s)))

  Bundled : List ℕ → Outcome → Type 0
  Bundled ys = Turn (Bundle ys) (Given (List Entry) (λ xs. LawfulList xs × (encoding xs ≡ ys)) Merged) (Is (refused 13) zeros s)

  Padded : List ℕ → Outcome → Type 0
  Padded text = Turn ((ys : List ℕ) × PadsTo ys text) (Given (List ℕ) (λ ys. PadsTo ys text) Bundled) (Is (refused 12) zeros s)

  Taking : Parts → Outcome → Type 0
  Taking v = Turn (length v.body ≤ length work) (Given (List ℕ) (OneText v.mode E1 (start_of E1 v.station v.serial) v.body) Padded) (Is (refused 11) zeros s)

  bundled : (ys : List ℕ) (b : Bundle ys) (o : Outcome) → Merged b.entries o → Bundled ys o
  unfolding Bundled
  bundled ys b o m = holds b (given b.entries (b.lawful, b.spelled) m)

  reading : {bytes : List ℕ} (p : Parcel bytes) (ys : List ℕ) (o : Outcome) → length p.body ≤ length work → Reads E1 p ys → Bundled ys o → Taking (parts p) o
  unfolding Taking Padded parts
  reading p ys o r (text, x, y) h = holds r (given text x (holds (ys, y) (given ys y h)))

  taking : {bytes : List ℕ} (p : Parcel bytes) (a : Answer) (l : List ℕ) (t : State) → TakeIn E1 p work s a t → l ≡ zeros → Taking (parts p) (outcome a l t)
  unfolding Taking Padded Bundled Merged parts
  taking p a l t (take_in_11 r e h) k = fails (λ q. omega arith) (is e k h)
  taking p a l t (take_in_12 text r x f e h) k = holds r (given text x (fails (λ (ys, y). f ys y) (is e k h)))
  taking p a l t (take_in_13 ys r x f e h) k = reading p ys (outcome a l t) r x (fails f (is e k h))
  taking p a l t (take_in_14 ys r x b c e h) k = reading p ys (outcome a l t) r x (bundled ys b (outcome a l t) (holds c (is e k h)))
  taking p a l t (take_in_5 ys r x b c m e h) k = reading p ys (outcome a l t) r x (bundled ys b (outcome a l t) (fails c (holds m (is e k h))))
  taking p a l t (taken_in_from ys r x b c m e h) k = reading p ys (outcome a l t) r x (bundled ys b (outcome a l t) (fails c (fails m (is e k h))))

  merged_one : (xs : List Entry) → One (Merged xs)
  unfolding Merged
  merged_one xs = ask is_one (ask is_one is_one)

  bundled_one : (ys : List ℕ) → One (Bundled ys)
  unfolding Bundled
  bundled_one ys = ask (given_one (λ a b (u, e) (v, f). one_list a b u v (e ∙ sym f)) (λ xs _. merged_one xs)) is_one

  padded_one : (text : List ℕ) → One (Padded text)
  unfolding Padded
  padded_one text = ask (given_one (λ a b. pads_one a b text) (λ ys _. bundled_one ys)) is_one

  taking_one : (v : Parts) → One (Taking v)
  unfolding Taking
  taking_one v = ask (given_one (λ a b x y. y.only a x.proper x.whole x.enciphers) (λ text _. padded_one text)) is_one

  TakingBytes : List ℕ → Outcome → Type 0
  TakingBytes bytes = Given Parts (PartsOf bytes) Taking

  taking_bytes : (bytes : List ℕ) (a : Answer) (l : List ℕ) (t : State) → TakesIn E1 bytes work s a t → l ≡ zeros → TakingBytes bytes (outcome a l t)
  unfolding TakingBytes PartsOf
  taking_bytes bytes a l t h k = given (parts h.parcel) (h.parcel, refl) (taking h.parcel a l t h.taken k)

  taking_bytes_one : (bytes : List ℕ) → One (TakingBytes bytes)
  unfolding TakingBytes
  taking_bytes_one bytes = given_one (parts_one bytes) (λ v _. taking_one v)

  module _ (E2 : Block → Block) where
    Checking : Parts → Outcome → Type 0
    Checking v = Turn (v.tag ≡ bytes_of (tag_of E2 (header v.mode v.station v.serial ++ v.body))) (Taking v) (Is (refused 10) zeros s)

    Opening : List ℕ → Outcome → Type 0
    Opening bytes = Turn (Sized bytes) (Turn (Parcel bytes) (Given Parts (PartsOf bytes) Checking) (Is (refused 9) zeros s)) (Is (refused 8) zeros s)

    open_chain : (bytes : List ℕ) (a : Answer) (l : List ℕ) (t : State) → Open E1 E2 bytes work s a t → l ≡ zeros → Opening bytes (outcome a l t)
    unfolding Opening Checking PartsOf parts
    open_chain bytes a l t (open_8 f e h) k = fails f (is e k h)
    open_chain bytes a l t (open_9 r f e h) k = holds r (fails f (is e k h))
    open_chain bytes a l t (open_10 p r f e h) k = holds r (holds p (given (parts p) (p, refl) (fails f (is e k h))))
    open_chain bytes a l t (opening p r g h) k = holds r (holds p (given (parts p) (p, refl) (holds g (taking p a l t h k))))

    opening_one : (bytes : List ℕ) → One (Opening bytes)
    unfolding Opening Checking
    opening_one bytes = ask (ask (given_one (parts_one bytes) (λ v _. ask (taking_one v) is_one)) is_one) is_one

-- ---- every call

apart : (a b : Answer) (l m : List ℕ) (t u : State) → outcome a l t ≡ outcome b m u → (a ≡ b) × (l ≡ m) × (t ≡ u)
apart a b l m t u e = (ap (λ o. o.answer) e, ap (λ o. o.lent) e, ap (λ o. o.after) e)

pub pinned : Pinned
unfolding zeros
pinned E1 E2 s L (publish n st fl) a b l m t u (x, v) (y, w) = apart a b l m t u (publishing_one n st fl s (outcome a l t) (outcome b m u) (publishing n st fl s a l t x v) (publishing n st fl s b m u y w))
pinned E1 E2 s L (withdraw n) a b l m t u (x, v) (y, w) = apart a b l m t u (withdrawing_one n s (outcome a l t) (outcome b m u) (withdrawing n s a l t x v) (withdrawing n s b m u y w))
pinned E1 E2 s L (convert n st room) a b l m t u (x, v) (y, w) = apart a b l m t u (converting_one n st room s L (outcome a l t) (outcome b m u) (converting n st room s L a l t x v) (converting n st room s L b m u y w))
pinned E1 E2 s L (seal k room) a b l m t u x y = apart a b l m t u (sealing_one E1 E2 k room s (outcome a l t) (outcome b m u) (sealing E1 E2 k room s a l t x) (sealing E1 E2 k room s b m u y))
pinned E1 E2 s L (open_parcel bytes work) a b l m t u (x, v) (y, w) = apart a b l m t u (opening_one E1 work s E2 bytes (outcome a l t) (outcome b m u) (open_chain E1 work s E2 bytes a l t x v) (open_chain E1 work s E2 bytes b m u y w))
pinned E1 E2 s L (take_in bytes work) a b l m t u (x, v) (y, w) = apart a b l m t u (taking_bytes_one E1 work s bytes (outcome a l t) (outcome b m u) (taking_bytes E1 work s bytes a l t x v) (taking_bytes E1 work s bytes b m u y w))
