-- What the checks ask of a target that was read, and what a fault that isn't want of memory says.
use Rattle.std.proofs.Common.{◌≡◌, ℕ, Bool, true, false, ◌&&◌, Result, Err, refl, sym, ◌∙◌}
use Rattle.mixed_graph.specs.Vocabulary.{has, Within, Apart, is_below, is_apart}
use Rattle.prob_expr.specs.Vocabulary.{are_term_sets, PlainTarget}
use Rattle.mixed_graph.proofs.MaskLaws.{apart_has}
use Rattle.expr_text.proofs.Within.{and_true, first_within}
use Rattle.do_derivation.specs.declared.faults.CheckFault.{CheckFault}
use Rattle.do_derivation.specs.Vocabulary.{UnlessNoMemory}
use Rattle.do_derivation.specs.declared.faults.CheckFault.TheVariants as checks
use Rattle.certificate.specs.declared.fault.CertFault.{CertFault}
use Rattle.certificate.specs.declared.fault.CertFault.TheVariants.{NotJson, Member, Version, TooDeep, Name, NoMemory}
use Rattle.certificate.specs.Vocabulary.{Fails}
use Rattle.check_command.specs.Replies.{IsSoundTarget}

pub y_within : (n : ℕ) (t : PlainTarget) → IsSoundTarget n t → Within n (has t.y)
y_within n t h = first_within n t.y t.x t.given h

pub sets_apart : (n : ℕ) (t : PlainTarget) → IsSoundTarget n t → Apart (has t.x) (has t.y)
sets_apart n t h v e = go (has t.y v) refl
  where
    apart : is_apart t.y t.x ≡ true
    apart =
        let sets = (and_true (are_term_sets n t.y t.x t.given) _ h).0 in
        let pairs = (and_true (is_below n t.y && (is_below n t.x && is_below n t.given)) _ sets).1 in
        (and_true (is_apart t.y t.x) _ pairs).0

    go : (b : Bool) → has t.y v ≡ b → b ≡ false
    go true k = sym e ∙ apart_has t.y t.x v apart k
    go false k = refl

pub told : (fault : CheckFault) (P : Type 0) → UnlessNoMemory fault P → (fault ≡ checks.NoMemory → ⊥) → P
told (checks.Step place why) P h other = h
told (checks.EndDiffers k) P h other = h
told checks.DoLeft P h other = h
told checks.NoMemory P h other = absurd (other refl)

-- a fault other than want of memory is the one that reading gives
pub unread : {A : Type 0} (fault : CertFault) (read : Result A CertFault) → Fails fault read → (fault ≡ NoMemory → ⊥) → read ≡ Err fault
unread NotJson read h other = h
unread (Member k) read h other = h
unread (Version k) read h other = h
unread TooDeep read h other = h
unread (Name t) read h other = h
unread NoMemory read h other = absurd (other refl)
