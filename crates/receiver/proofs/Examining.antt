-- Which check of offered bytes decides, before they are compared with what is accepted. Assumes nothing.
use Rattle.std.proofs.Common.{◌≡◌, ℕ, ◌+◌, ◌<◌, List, [], ◌∷◌, length, drop, Some, None, Ok, Err, Option, sym, ap, ◌∙◌, subst, arith}
use Rattle.std.specs.Option.{option_map}
use Rattle.std.proofs.lemmas.List.{length-drop}
use Rattle.std.proofs.lemmas.Bool.{eqb-true, lt-ltb}
use Rattle.checks.specs.Checks.{first, answered, lowest, too_large}
use Rattle.checks.proofs.Order.{unless_none, unless_true, first_none, skip, stop, mapped_none}
use Rattle.code.specs.Plans.{PlanView}
use Rattle.packet.specs.Bytes.{word, ReadFrom}
use Rattle.packet.specs.Layout.{header_length, number_at, Headed, carried}
use Rattle.packet.specs.Opening.{opening}
use Rattle.packet.specs.declared.Job.{Job}
use Rattle.packet.proofs.Numbers.{row_read}
use Rattle.packet.proofs.Opening.{opens-headed}
use Rattle.receiver.specs.Examining.{front_checks, Examined}
use Rattle.receiver.specs.Machine.{job_checks}
use Rattle.receiver.specs.declared.fault.ReceiverFault.{ReceiverFault}
use Rattle.receiver.specs.declared.fault.ReceiverFault.TheVariants.{Packet as InPacket, Symbol, OtherJob}

module _ (p : PlanView) (j : Job) (bs : List ℕ) where
  abbrev here : Option ReceiverFault
  here = first (front_checks p j bs)

  refused : (f : ReceiverFault) (row : List ℕ) → here ≡ Some f → Examined p j bs (Err f) row
  refused f row e = record { answers = sym (ap (λ x. answered x (word bs number_at)) e); reads = λ n. absurd (cc (n, e)) }

  module _ (opens : opening bs ≡ None) where
    opened : (os : List (Option ReceiverFault)) → first (option_map InPacket (opening bs) ∷ os) ≡ first os
    opened os = skip _ os (ap (option_map InPacket) opens)

    pub not_ours : (row : List ℕ) (f : ReceiverFault) → option_map OtherJob (first (job_checks p j bs)) ≡ Some f → Examined p j bs (Err f) row
    not_ours row f e = refused f row (opened _ ∙ stop _ _ _ e)

    module _ (ours : option_map OtherJob (first (job_checks p j bs)) ≡ None) where
      job : (os : List (Option ReceiverFault)) → first (option_map OtherJob (first (job_checks p j bs)) ∷ os) ≡ first os
      job os = skip _ os ours

      headed : Headed p j bs
      headed =
          let h = first_none (job_checks p j bs) (mapped_none OtherJob _ ours) in
          opens-headed p j bs opens (eqb-true _ _ (unless_none _ _ h.0)) (eqb-true _ _ (unless_none _ _ h.1.0))
          (eqb-true _ _ (unless_none _ _ h.1.1.0)) (eqb-true _ _ (unless_none _ _ h.1.1.1.0))
          (eqb-true _ _ (unless_none _ _ h.1.1.1.1.0)) (eqb-true _ _ (unless_none _ _ h.1.1.1.1.1.0))

      -- the bytes behind the header are the row's
      pub row_carried : (part row : List ℕ) → part ≡ drop header_length bs → ReadFrom p.q part row → length row ≡ p.L → row ≡ (carried p bs).row
      row_carried part row is read long =
          row_read p.q p.L (drop header_length bs) row (subst (λ xs. ReadFrom p.q xs row) is read) long
          (length-drop header_length bs ∙ omega (arith, headed.long))

      module _ (n : ℕ) (is : n ≡ word bs number_at) (inside : n < p.m + p.r) (row : List ℕ) (read : row ≡ (carried p bs).row) where
        to_symbols : here ≡ first (option_map Symbol (lowest (too_large p.q row) (length row)) ∷ [])
        to_symbols = rw read (opened _ ∙ job _ ∙ skip _ _ (unless_true _ _ (lt-ltb (word bs number_at) (p.m + p.r) (omega arith))))

        pub too_big : (place : ℕ) → Some place ≡ lowest (too_large p.q row) (length row) → Examined p j bs (Err (Symbol place)) row
        too_big place e = refused (Symbol place) row (to_symbols ∙ stop _ _ _ (ap (option_map Symbol) (sym e)))

        pub passes : None ≡ lowest (too_large p.q row) (length row) → Examined p j bs (Ok n) row
        passes e =
            let none : here ≡ None = to_symbols ∙ skip _ _ (ap (option_map Symbol) (sym e)) in
            record { answers = rw none (ap Ok is); reads = λ _. read }
