use Rattle.rule_pages.proofs.Words.{◌≡◌, ◌<◌, ◌∙◌, ◌∷◌, [], ℕ, Bool, List, arith, below_more, false, get_or, length, slice_get, subst, sym, true, slice_get-get_or, IfSome, IsTrue, CertMagic, CertLength, CertField, CertMemory, WriteToOwned, NotAsSubmitted, NotDeclared, NotWhole, LinkFault, RingFull, BadDescriptor, BadRegister, BadDoorbell, BadCommand, Busy, ImpossibleEvent, BadErdp, NotInProfile, AfterStop, BadMove, BadWithdraw, NotRestored, BadFree, BadRing, ImpossibleRead, PlanNotDeclared, PlanRingFull, PlanBadDescriptor, PlanNotInProfile, PlanNotGiven, LineHeader, LineRow, LineNumber, LineLimit, LineShape, TakenOutOfOrder, TakenOtherWords, WaitsInsideDescriptor, LooksOutside, PostsOverUnread, InputContextChanged, IsCalled, Subject, OfRule, OfLine, OfCertificate, OfPlan, OfDevice, OfHarm}
use Rattle.rule_pages.proofs.naming.subject_called.Goals as goal

-- what holds of the item that is read
kept : (P : Subject → Type 0) (xs : List Subject) (i : ℕ) (d : Subject) → i < length xs → P (get_or xs i d) → IfSome (slice_get xs i) P
kept P xs i d within holds = subst (λ o. IfSome o P) (sym (slice_get-get_or xs i d within)) holds

refuted : (P : Type 0) (test : Bool) → test ≡ false → (P → IsTrue test) → P → ⊥
refuted P test is told holds = never (sym is ∙ told holds)
  where
    never : false ≡ true → ⊥
    never e = cc

-- all that there is a page on, in the order of the source
abbrev subjects : List Subject
subjects =
    (OfRule WriteToOwned) ∷ (OfRule NotAsSubmitted) ∷ (OfRule NotDeclared) ∷ (OfRule NotWhole)
    ∷ (OfRule LinkFault) ∷ (OfRule RingFull) ∷ (OfRule BadDescriptor) ∷ (OfRule BadRegister)
    ∷ (OfRule BadDoorbell) ∷ (OfRule BadCommand) ∷ (OfRule Busy) ∷ (OfRule ImpossibleEvent)
    ∷ (OfRule BadErdp) ∷ (OfRule NotInProfile) ∷ (OfRule AfterStop) ∷ (OfRule BadMove)
    ∷ (OfRule BadWithdraw) ∷ (OfRule NotRestored) ∷ (OfRule BadFree) ∷ (OfRule BadRing)
    ∷ (OfRule ImpossibleRead)
    ∷ (OfLine LineHeader) ∷ (OfLine LineRow) ∷ (OfLine LineNumber) ∷ (OfLine LineLimit)
    ∷ (OfLine LineShape) ∷ (OfCertificate CertMagic) ∷ (OfCertificate CertLength) ∷ (OfCertificate CertField)
    ∷ (OfCertificate CertMemory) ∷ (OfPlan PlanNotDeclared) ∷ (OfPlan PlanRingFull) ∷ (OfPlan PlanBadDescriptor)
    ∷ (OfPlan PlanNotInProfile) ∷ (OfPlan PlanNotGiven) ∷ OfDevice ∷ (OfHarm TakenOutOfOrder)
    ∷ (OfHarm TakenOtherWords) ∷ (OfHarm WaitsInsideDescriptor) ∷ (OfHarm LooksOutside) ∷ (OfHarm PostsOverUnread)
    ∷ (OfHarm InputContextChanged)
    ∷ []

pub loop-subject-preserved : goal.loop-subject-preserved
loop-subject-preserved c =
    below_more _ _ c.loop-subject.invariant
    (kept (λ subject. IsCalled subject c.args.word.now → ⊥) subjects c.loop-subject.subject-index (OfRule WriteToOwned) c.loop-subject-test.true (refuted _ _ c.if-is_called.false c.is_called.ensures.1))

pub returns-clause-unknown : goal.returns-clause-unknown
returns-clause-unknown c = each
  where
    all : 41 < c.loop-subject.subject-index
    all = omega (arith, c.loop-subject-test.false)

    each : (subject : Subject) → IsCalled subject c.args.word.now → ⊥
    each (OfRule WriteToOwned) = c.loop-subject.invariant 0 (omega (arith, all))
    each (OfRule NotAsSubmitted) = c.loop-subject.invariant 1 (omega (arith, all))
    each (OfRule NotDeclared) = c.loop-subject.invariant 2 (omega (arith, all))
    each (OfRule NotWhole) = c.loop-subject.invariant 3 (omega (arith, all))
    each (OfRule LinkFault) = c.loop-subject.invariant 4 (omega (arith, all))
    each (OfRule RingFull) = c.loop-subject.invariant 5 (omega (arith, all))
    each (OfRule BadDescriptor) = c.loop-subject.invariant 6 (omega (arith, all))
    each (OfRule BadRegister) = c.loop-subject.invariant 7 (omega (arith, all))
    each (OfRule BadDoorbell) = c.loop-subject.invariant 8 (omega (arith, all))
    each (OfRule BadCommand) = c.loop-subject.invariant 9 (omega (arith, all))
    each (OfRule Busy) = c.loop-subject.invariant 10 (omega (arith, all))
    each (OfRule ImpossibleEvent) = c.loop-subject.invariant 11 (omega (arith, all))
    each (OfRule BadErdp) = c.loop-subject.invariant 12 (omega (arith, all))
    each (OfRule NotInProfile) = c.loop-subject.invariant 13 (omega (arith, all))
    each (OfRule AfterStop) = c.loop-subject.invariant 14 (omega (arith, all))
    each (OfRule BadMove) = c.loop-subject.invariant 15 (omega (arith, all))
    each (OfRule BadWithdraw) = c.loop-subject.invariant 16 (omega (arith, all))
    each (OfRule NotRestored) = c.loop-subject.invariant 17 (omega (arith, all))
    each (OfRule BadFree) = c.loop-subject.invariant 18 (omega (arith, all))
    each (OfRule BadRing) = c.loop-subject.invariant 19 (omega (arith, all))
    each (OfRule ImpossibleRead) = c.loop-subject.invariant 20 (omega (arith, all))
    each (OfLine LineHeader) = c.loop-subject.invariant 21 (omega (arith, all))
    each (OfLine LineRow) = c.loop-subject.invariant 22 (omega (arith, all))
    each (OfLine LineNumber) = c.loop-subject.invariant 23 (omega (arith, all))
    each (OfLine LineLimit) = c.loop-subject.invariant 24 (omega (arith, all))
    each (OfLine LineShape) = c.loop-subject.invariant 25 (omega (arith, all))
    each (OfCertificate CertMagic) = c.loop-subject.invariant 26 (omega (arith, all))
    each (OfCertificate CertLength) = c.loop-subject.invariant 27 (omega (arith, all))
    each (OfCertificate CertField) = c.loop-subject.invariant 28 (omega (arith, all))
    each (OfCertificate CertMemory) = c.loop-subject.invariant 29 (omega (arith, all))
    each (OfPlan PlanNotDeclared) = c.loop-subject.invariant 30 (omega (arith, all))
    each (OfPlan PlanRingFull) = c.loop-subject.invariant 31 (omega (arith, all))
    each (OfPlan PlanBadDescriptor) = c.loop-subject.invariant 32 (omega (arith, all))
    each (OfPlan PlanNotInProfile) = c.loop-subject.invariant 33 (omega (arith, all))
    each (OfPlan PlanNotGiven) = c.loop-subject.invariant 34 (omega (arith, all))
    each OfDevice = c.loop-subject.invariant 35 (omega (arith, all))
    each (OfHarm TakenOutOfOrder) = c.loop-subject.invariant 36 (omega (arith, all))
    each (OfHarm TakenOtherWords) = c.loop-subject.invariant 37 (omega (arith, all))
    each (OfHarm WaitsInsideDescriptor) = c.loop-subject.invariant 38 (omega (arith, all))
    each (OfHarm LooksOutside) = c.loop-subject.invariant 39 (omega (arith, all))
    each (OfHarm PostsOverUnread) = c.loop-subject.invariant 40 (omega (arith, all))
    each (OfHarm InputContextChanged) = c.loop-subject.invariant 41 (omega (arith, all))
