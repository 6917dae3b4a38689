use Rattle.key_system_access.proofs.TextLemmas.{first_put, config_put}
use Rattle.key_system_access.proofs.text.config_text.Goals as goal

pub returns : goal.returns
returns c =
    let init_types = rw c.as_slice.ensures at c.in_ok-put_texts.ensures in
    let audio = rw c.as_slice-2.ensures at c.in_ok-put_capabilities.ensures in
    let video = rw c.as_slice-3.ensures at c.in_ok-put_capabilities-2.ensures in
    let sessions = rw c.as_slice-4.ensures at c.in_ok-put_texts-2.ensures in
    config_put c.args.config.now _ _ _ _ _ _ _ _
    (first_put c.args.config.now _ _ _ _ _ _ _ _ _ c.new-out.ensures c.in_ok-extend_from_slice.ensures.ok c.in_ok-put_text.ensures
    c.in_ok-extend_from_slice-2.ensures.ok init_types c.in_ok-extend_from_slice-3.ensures.ok audio c.in_ok-extend_from_slice-4.ensures.ok video)
    c.in_ok-extend_from_slice-5.ensures.ok c.in_ok-put_need.ensures c.in_ok-extend_from_slice-6.ensures.ok c.in_ok-put_need-2.ensures
    c.in_ok-extend_from_slice-7.ensures.ok sessions c.in_ok-extend_from_slice-8.ensures.ok
