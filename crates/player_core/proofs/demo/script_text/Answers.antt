use Rattle.player_core.proofs.Demos.{script_put}
use Rattle.player_core.proofs.demo.script_text.Goals as goal

pub returns : goal.returns
returns c =
    script_put c.args.keys.now c.in_ok-out.out c.put_kids.new.out c.extend_from_slice.new.self c.put_keys.new.out c.extend_from_slice-2.new.self c.put_keys-2.new.out c.extend_from_slice-3.new.self c.in_ok-out.ensures c.in_ok-put_kids.ensures c.in_ok-extend_from_slice.ensures.ok c.in_ok-put_keys.ensures c.in_ok-extend_from_slice-2.ensures.ok c.in_ok-put_keys-2.ensures c.in_ok-extend_from_slice-3.ensures.ok
